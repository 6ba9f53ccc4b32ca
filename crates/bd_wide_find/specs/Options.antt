-- What a query and the options of `find` request of documents of all types, and the messages for their texts.
use Rattle.std.specs.Prelude.{ℕ, List, [], codes, drop, Option, Some, None, Result, Ok}
use Rattle.std.specs.Option.{ok_or}
use Rattle.bd_value.specs.Tree.{Doc}
use Rattle.bd_extjson.specs.Read.{reading}
use Rattle.bd_extjson_fault.specs.{TextFault.text_fault, declared.json_fault.JsonFault.JsonFault}
use Rattle.bd_cursor_request.specs.{Refused.then_part, Request.Request, declared.token.Token.Token}
use Rattle.bd_cli_args.specs.FindOptions.{FindOptions}
use Rattle.bd_cli_files.specs.Pack.{advised}
use Rattle.bd_cli_find.specs.Options.{json_fault_text, search_of}
use Rattle.bd_wide_advice.specs.Advice.{advice_of}

-- the message for a text that is refused, after the name of its option: that of `bsonfind`, and what to write instead, if that is known
abbrev pub advised_text : List ℕ → List ℕ → JsonFault → List ℕ
advised_text name text fault = advised (json_fault_text name fault) (advice_of fault.kind (drop fault.at text))

-- the document of a sort, or the message of the fault of its text; without a text it is `{}`
abbrev pub sort_in : Option (List ℕ) → Result Doc (List ℕ)
sort_in None = Ok []
sort_in (Some text) = ok_or (reading text) (advised_text (codes "sort") text (text_fault text))

-- What a query and the options request, or the message of the first refusal: of the sort's text, then the rest.
abbrev pub requested_of : FindOptions → Doc → Result (Request × Option Token) (List ℕ)
requested_of options query = then_part (sort_in options.sort) (search_of options query)
