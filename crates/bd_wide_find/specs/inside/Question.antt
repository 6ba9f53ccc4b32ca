-- What the parts of a run of `find` give.
use Rattle.std.specs.Prelude.{◌≡◌, ℤ, true, List, ℕ, None, Ok}
use Rattle.bd_value.specs.{Tree.Doc, Tree.fields_of, View.pairs}
use Rattle.bd_cursor_request.specs.Request.{request_view}
use Rattle.bd_cli_args.specs.FindOptions.{FindOptions}
use Rattle.bd_cli_find.specs.Options.{fits_batch}
use Rattle.bd_cli_find.specs.declared.options.Search.{Search}
use Rattle.bd_wide_number.specs.declared.number.Number.{Number}
use Rattle.bd_wide_order.specs.{Query.renumber_request, Ranks.table_codes}
use Rattle.bd_wide_copy.specs.declared.longs.Longs.{Longs}
use Rattle.bd_wide_query.specs.{Split.third_class, Types.longs_of}
use Rattle.bd_wide_substitute.specs.Both.{IsRead}
use Rattle.bd_wide_find.specs.Coded.{CopiesDump}
use Rattle.bd_wide_find.specs.{Find.HasTable, Find.IsRequest, Find.request_by_value, Options.requested_of}
use Rattle.bd_wide_find.specs.declared.question.Question.{Question}
use Rattle.bd_wide_find.specs.declared.coded.Coded.{Coded}

-- The question is what the text of a query and the options ask.
pub record ReadsOptions (text : List ℕ) (options : FindOptions) (q : Question) : Type 0 where
  pub read : IsRead text (pairs q.query.wholes) (pairs q.query.texts) q.query.numbers.items
  pub requested : requested_of options (pairs q.query.texts) ≡ Ok (request_view q.search.request, q.search.token)
  pub fits : fits_batch options.batch ≡ true

-- The search is that of the query with codes: ranks among the numbers of a table.
abbrev pub SearchesBy : FindOptions → Longs → List Number → Doc → Doc → List ℤ → Search → Type 0
SearchesBy options longs numbers wholes texts table search = (requests : IsRequest options longs numbers wholes texts table)
    × (search.token ≡ requests.token)
    × (request_view search.request
    ≡ renumber_request (table_codes table) requests.coded.text (request_by_value table requests.request requests.coded))

-- The search with codes, and the copy.
pub record SearchesCopy (options : FindOptions) (numbers : List Number) (wholes texts : Doc) (bytes : List ℕ) (c : Coded) : Type 0 where
  pub two_classes : third_class (fields_of texts) ≡ None
  pub ds : List Doc
  pub table : List ℤ
  pub has : HasTable (longs_of (fields_of texts)) bytes ds table
  pub searches : SearchesBy options (longs_of (fields_of texts)) numbers wholes texts table c.search
  pub copies : CopiesDump (longs_of (fields_of texts)) bytes table c.copy
