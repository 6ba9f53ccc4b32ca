use Rattle.std.proofs.Common.{◌≡◌, ◌++◌, ◌∷◌, ◌∙◌, [], ap, arith, decimal, length, option_map, rules}
use Rattle.bd_io_device.proofs.DevicesLemmas.{write_fails_first, write_fails_second}
use Rattle.bd_cursor.specs.SessionView.{positioned_token}
use Rattle.bd_cli_scan.proofs.OutputLemmas.{on_err, on_err_map}
use Rattle.bd_cli_find.specs.Find.{end_words, token_words}
use Rattle.bd_cli_find.proofs.batch.write_counts.Goals as goal

pub returns-in_err-write_all-2-clause-err : goal.returns-in_err-write_all-2-clause-err
returns-in_err-write_all-2-clause-err g c =
    let e = g.E.Output.state in
    let b = c.args.batch.now in
    let token = token_words (option_map positioned_token b.token) in
    let count : c.as_bytes.result.now ≡ decimal c.len.result = search rules in
    let same : c.len.result ≡ length b.places.items = omega (arith, c.len.ensures, b.places.ok.0) in
    let number : c.as_bytes.result.now ≡ decimal (length b.places.items) = count ∙ ap (λ k. decimal k) same in
    let words : c.as_bytes-2.result.now ≡ end_words b.end = c.as_bytes-2.ensures.value ∙ c.words_of_end.ensures in
    on_err c.from_residual-in_err-write_all-2.result _ (write_fails_second (e c.args.err.now) (e c.write_all.new.writer) (e c.write_all-2.new.writer) (decimal (length b.places.items)) (end_words b.end ++ (token ++ 10 ∷ []))
    (rw number at c.in_ok-write_all.ensures.written)
    (write_fails_first (e c.write_all.new.writer) (e c.write_all-2.new.writer) (end_words b.end) (token ++ 10 ∷ []) (rw words at c.in_err-write_all-2.ensures.write_failed)))

pub returns-in_err-write_token-clause-err : goal.returns-in_err-write_token-clause-err
returns-in_err-write_token-clause-err g c =
    let e = g.E.Output.state in
    let b = c.args.batch.now in
    let token = token_words (option_map positioned_token b.token) in
    let count : c.as_bytes.result.now ≡ decimal c.len.result = search rules in
    let same : c.len.result ≡ length b.places.items = omega (arith, c.len.ensures, b.places.ok.0) in
    let number : c.as_bytes.result.now ≡ decimal (length b.places.items) = count ∙ ap (λ k. decimal k) same in
    let words : c.as_bytes-2.result.now ≡ end_words b.end = c.as_bytes-2.ensures.value ∙ c.words_of_end.ensures in
    on_err c.from_residual-in_err-write_token.result _ (write_fails_second (e c.args.err.now) (e c.write_all.new.writer) (e c.write_token.new.err) (decimal (length b.places.items)) (end_words b.end ++ (token ++ 10 ∷ []))
    (rw number at c.in_ok-write_all.ensures.written)
    (write_fails_second (e c.write_all.new.writer) (e c.write_all-2.new.writer) (e c.write_token.new.err) (end_words b.end) (token ++ 10 ∷ []) (rw words at c.in_ok-write_all-2.ensures.written)
    (write_fails_first (e c.write_all-2.new.writer) (e c.write_token.new.err) token (10 ∷ []) c.in_err-write_token.ensures.err)))

pub returns-clause-err : goal.returns-clause-err
returns-clause-err g c =
    let e = g.E.Output.state in
    let b = c.args.batch.now in
    let token = token_words (option_map positioned_token b.token) in
    let count : c.as_bytes.result.now ≡ decimal c.len.result = search rules in
    let same : c.len.result ≡ length b.places.items = omega (arith, c.len.ensures, b.places.ok.0) in
    let number : c.as_bytes.result.now ≡ decimal (length b.places.items) = count ∙ ap (λ k. decimal k) same in
    let words : c.as_bytes-2.result.now ≡ end_words b.end = c.as_bytes-2.ensures.value ∙ c.words_of_end.ensures in
    on_err_map c.write_all-3.result _ _ c.write_all-3.ensures.write_failed (λ failed_write.
    write_fails_second (e c.args.err.now) (e c.write_all.new.writer) (e c.write_all-3.new.writer) (decimal (length b.places.items)) (end_words b.end ++ (token ++ 10 ∷ []))
    (rw number at c.in_ok-write_all.ensures.written)
    (write_fails_second (e c.write_all.new.writer) (e c.write_all-2.new.writer) (e c.write_all-3.new.writer) (end_words b.end) (token ++ 10 ∷ []) (rw words at c.in_ok-write_all-2.ensures.written)
    (write_fails_second (e c.write_all-2.new.writer) (e c.write_token.new.err) (e c.write_all-3.new.writer) token (10 ∷ []) c.in_ok-write_token.ensures.ok failed_write)))
