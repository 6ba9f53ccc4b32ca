use Rattle.std.proofs.Common.{◌∷◌, [], ◌++◌, ◌∙◌}
use Rattle.bd_extjson_text.proofs.BufferLemmas.{failed, prefix, then}
use Rattle.bd_wide_dump.specs.RelaxedDate.{day_text, time_text}
use Rattle.bd_wide_dump.proofs.relaxed.append_plain_instant.Goals as goal

pub returns-in_err-at-2 : goal.returns-in_err-at-2
returns-in_err-at-2 c =
    failed _ _ _ _ c.from_residual-in_err-at-2.result c.from_residual-in_err-at-2.ensures.0
    (prefix c.args.end c.in_ok-at.at c.args.out.now.items _ c.append_time.new.out.items c.requires.1 (c.in_err-at-2.ensures ∙ c.in_ok-at.ensures.0))

pub returns : goal.returns
returns c =
    let day = day_text c.args.day in
    let time = time_text c.args.milliseconds in
    let r = c.append_few.result in
    let new = c.append_few.new.out.items in
    then c.args.end c.in_ok-at.at c.args.out.now.items c.append_day.new.out.items new day (time ++ 90 ∷ []) r c.requires.1 c.in_ok-at.ensures.0
    (then c.in_ok-at.at c.in_ok-at-2.at c.append_day.new.out.items c.append_time.new.out.items new time (90 ∷ []) r c.in_ok-at.ensures.1 c.in_ok-at-2.ensures.0 c.append_few.ensures.text)
