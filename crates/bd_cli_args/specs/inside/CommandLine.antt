-- The command lines that `bsonfind` accepts, by the parser's own definition,
-- and the command that each one means.
use Rattle.std.specs.Prelude.{◌&&◌, List, [], ◌∷◌, Bool, false}
use Rattle.std.specs.Prelude.{codes}
use Rattle.std.specs.Str.{bytes_eq}
use Rattle.clap.specs.Walk.{Text}

-- ---- the command lines that are accepted, as the parser defines them

-- whether the arguments are `serve -` or `serve -- -`, which are refused before they are parsed
abbrev pub is_serve_input_line : List Text → Bool
is_serve_input_line (command ∷ file ∷ []) = bytes_eq command (codes "serve") && bytes_eq file (codes "-")
is_serve_input_line (command ∷ escape ∷ file ∷ []) =
    bytes_eq command (codes "serve") && (bytes_eq escape (codes "--") && bytes_eq file (codes "-"))
is_serve_input_line _ = false
