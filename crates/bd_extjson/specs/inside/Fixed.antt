-- JSON values of one token.
use Rattle.std.specs.Prelude.{Option, Some, None}
use Rattle.json.specs.Json.{Json, string, number, boolean}

-- the value, if it is a string, a number, `true` or `false`
abbrev pub bare : Json → Option Json
bare (string s) = Some (string s)
bare (number s) = Some (number s)
bare (boolean b) = Some (boolean b)
bare _ = None
