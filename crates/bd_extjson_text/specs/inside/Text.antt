-- Canonical Extended JSON v2: the text of a value and of a document, without white space.
-- The first half is the grammar of JSON (RFC 8259), the second the conversion table of Extended JSON v2.
use Rattle.bd_value.specs.Tree.{text as string, symbol, binary}
use Rattle.bd_value.specs.Tree.{regex, db_pointer, code, Tree, leaf}

-- A value whose text is short: it contains no other value, no text, and no bytes but an id.
abbrev pub HasShortText : Tree → Type 0
HasShortText (leaf (string s)) = ⊥
HasShortText (leaf (symbol s)) = ⊥
HasShortText (leaf (code s)) = ⊥
HasShortText (leaf (binary k s)) = ⊥
HasShortText (leaf (regex p o)) = ⊥
HasShortText (leaf (db_pointer s i)) = ⊥
HasShortText (leaf _) = Unit {0}
HasShortText _ = ⊥
