-- The options of a layout.
use Rattle.std.specs.Prelude.{ℕ, List, Bool, Option}

-- how the texts of documents are laid out, as the options say it: the word of `--type` and that of `--jsonFormat`, the text of
-- `--fields`, and whether `--noId`, `--noHeaderLine`, `--jsonArray` and `--pretty` are given
pub record LayoutOptions : Type 0 where
  pub output : Option (List ℕ)
  pub format : Option (List ℕ)
  pub fields : Option (List ℕ)
  pub no_id : Bool
  pub no_header : Bool
  pub is_array : Bool
  pub is_pretty : Bool
