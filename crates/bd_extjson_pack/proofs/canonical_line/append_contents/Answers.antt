use Rattle.std.proofs.Common.{rules, ap, ◌∙◌, ◌++◌, ◌∷◌, append_assoc}
use Rattle.bd_extjson_text.specs.Text.{escaped}
use Rattle.bd_extjson_pack.proofs.CanonicalLemmas.{run_goes_on, run_shorter, when_read, utf8_goes_on}
use Rattle.bd_extjson_pack.proofs.canonical_line.append_contents.Goals as goal

pub loop-byte-init : goal.loop-byte-init
loop-byte-init c =
    let run = c.in_ok-rest.ensures in
    (run.0, run.1, run.2, run.3, search rules, run.4)

pub loop-byte-smaller : goal.loop-byte-smaller
loop-byte-smaller c =
    let run = c.in_ok-rest-2.ensures in
    run_shorter c.loop-byte.rest.now c.in-Some.after.now run.0 c.in_ok-rest-2.rest.now c.in-Some.byte c.in-Some.ensures.0 run.3

pub loop-byte-preserved : goal.loop-byte-preserved
loop-byte-preserved c =
    let l = c.loop-byte in
    let s = l.invariant.0 in
    let byte = c.in-Some.byte in
    let run = c.in_ok-rest-2.ensures in
    let put = c.set_last.ensures (c.args.out.now.items ++ s) l.invariant.1 (l.invariant.5 ∙ simp append_assoc) in (
      s ++ (byte ∷ run.0),
      run.1,
      utf8_goes_on s run.0 byte l.invariant.2 c.in-Some.ensures.1 run.2,
      run_goes_on c.args.text.now s l.rest.now c.in-Some.after.now run.0 c.in_ok-rest-2.rest.now byte l.invariant.3 c.in-Some.ensures.0 run.3,
      search rules,
      rw (run.4, put) (simp append_assoc),
    )

pub returns : goal.returns
returns c =
    let l = c.loop-byte in
    let s = l.invariant.0 in
    let put = c.set_last-2.ensures (c.args.out.now.items ++ s) l.invariant.1 (l.invariant.5 ∙ simp append_assoc) in
    when_read c.after_word.result c.ok_or.result c.ok_or.ensures.ok_part c.after_word.ensures
    (λ rest quote. (s, l.invariant.2, l.invariant.3 ∙ ap (λ x. escaped s ++ x) quote, put ∙ simp append_assoc))
