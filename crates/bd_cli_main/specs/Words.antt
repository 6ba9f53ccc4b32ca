-- What arguments say without a parser.
use Rattle.std.specs.Prelude.{List, [], ◌∷◌, Bool, false, codes}
use Rattle.std.specs.Str.{bytes_eq}
use Rattle.clap.specs.Walk.{Text}

-- whether the only argument is `--version`
abbrev pub is_version_line : List Text → Bool
is_version_line (word ∷ []) = bytes_eq word (codes "--version")
is_version_line _ = false
