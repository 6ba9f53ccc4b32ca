-- What is checked of a request after its filter.
use Rattle.std.specs.Prelude.{ℕ, nat_le, ◌&&◌, List, Result, Ok, Err, if◌then◌else◌}
use Rattle.std.specs.{Option.ok_or}
use Rattle.bd_value.specs.{Limits.greatest_count, Tree.Doc}
use Rattle.bd_path.specs.Sort.{SortPath}
use Rattle.bd_cursor_request.specs.Refused.{Reason, plain, then_part}
use Rattle.bd_cursor_request.specs.Request.{sort_of}
use Rattle.bd_cursor_request.specs.declared.results.Refused.TheVariants as reasons

-- the sort, or why it is refused; the counts are checked last
abbrev pub rest_part : Doc → ℕ → ℕ → Result (List SortPath) Reason
rest_part sort skip limit =
    then_part (ok_or (sort_of sort) (plain reasons.BadSort)) (λ ss.
    if nat_le skip greatest_count && nat_le limit greatest_count then Ok ss else Err (plain reasons.Range))
