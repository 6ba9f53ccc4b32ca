-- How many bytes a value with values inside has at least.
use Rattle.std.specs.Prelude.{ℕ}
use Rattle.bd_bson_view.specs.declared.raw_parts.Holder.{Holder}
use Rattle.bd_bson_view.specs.declared.raw_parts.Holder.TheVariants as holders

-- the least number of bytes of a document, an array and code with scope
unfoldable pub holder_least : Holder → ℕ
holder_least holders.Document = 5
holder_least holders.Array = 5
holder_least holders.CodeScope = 14
