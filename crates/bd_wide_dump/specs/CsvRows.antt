-- Worked paths to fields, rows of CSV, and texts on many lines. The first five rows of CSV are of RFC 4180, section 2.
use Rattle.std.specs.Prelude.{ℕ, List, [], ◌∷◌, codes, Option, Some, None}
use Rattle.bd_value.specs.Tree.{Tree, Doc}
use Rattle.bd_path.specs.Reach.{Names}
use Rattle.bd_wide_dump.specs.ProjectedRows.{int, word, document, journal, mixed, scoped}

-- a document, a path, and the value that it leads to
abbrev pub path_rows : List (Doc × Names × Option Tree)
path_rows = (journal, codes "item" ∷ [], Some (word (codes "journal")))
    ∷ (journal, codes "size" ∷ codes "uom" ∷ [], Some (word (codes "cm")))
    ∷ (journal, codes "color" ∷ [], None)
    -- an element of an array is named by its index alone
    ∷ (journal, codes "instock" ∷ codes "0" ∷ codes "qty" ∷ [], Some (int 5))
    ∷ (journal, codes "instock" ∷ codes "1" ∷ [], None)
    ∷ (journal, codes "instock" ∷ codes "qty" ∷ [], None)
    ∷ (mixed, codes "a" ∷ codes "2" ∷ codes "1" ∷ codes "0" ∷ [], Some (int 5))
    ∷ (mixed, codes "a" ∷ codes "01" ∷ [], None)
    ∷ (mixed, codes "a" ∷ codes "18446744073709551616" ∷ [], None)
    -- the first field of a name
    ∷ (mixed, codes "b" ∷ [], Some (int 7))
    ∷ (mixed, codes "b" ∷ codes "b" ∷ [], None)
    -- in a document a number is a name
    ∷ ((codes "a", document ((codes "0", int 1) ∷ [])) ∷ [], codes "a" ∷ codes "0" ∷ [], Some (int 1))
    -- a value on the way is neither a document nor an array
    ∷ (journal, codes "item" ∷ codes "0" ∷ [], None)
    ∷ (scoped, codes "s" ∷ codes "x" ∷ [], None)
    ∷ []

-- fields, and their row
abbrev pub written_rows : List (List (List ℕ) × List ℕ)
written_rows = (codes "aaa" ∷ codes "bbb" ∷ codes "ccc" ∷ [], codes "aaa,bbb,ccc\n")
    ∷ (codes "aaa" ∷ codes "b\r\nbb" ∷ codes "ccc" ∷ [], codes "aaa,\"b\r\nbb\",ccc\n")
    ∷ (codes "aaa" ∷ codes "b\"bb" ∷ codes "ccc" ∷ [], codes "aaa,\"b\"\"bb\",ccc\n")
    ∷ (codes "a,b" ∷ codes " c " ∷ [], codes "\"a,b\", c \n")
    ∷ (codes "\n" ∷ codes "\r" ∷ codes "\"" ∷ [], codes "\"\n\",\"\r\",\"\"\"\"\n")
    -- empty fields; one that is alone is in quotation marks, since readers pass over an empty line
    ∷ ([] ∷ [] ∷ [], codes ",\n")
    ∷ ([] ∷ [], codes "\"\"\n")
    ∷ []

-- a text of JSON, and the same on many lines
abbrev pub pretty_rows : List (List ℕ × List ℕ)
pretty_rows = (codes "{\"a\":[1,{}],\"b\":[]}", codes "{\n\t\"a\": [\n\t\t1,\n\t\t{}\n\t],\n\t\"b\": []\n}")
    -- in strings nothing is more
    ∷ (codes "{\"a\":\"{,:\\\"[\"}", codes "{\n\t\"a\": \"{,:\\\"[\"\n}")
    ∷ (codes "{}", codes "{}")
    ∷ []
