-- A text as JSON (RFC 8259), from left to right. Each function skips one item at the start of the text, and gives the
-- text after it, or the first fault: its kind, and how many bytes remain from its offset to the text's end.
use Rattle.std.specs.Prelude.{Result, Ok, Err, MatchResult, ◌≡◌}
use Rattle.bd_extjson_fault.specs.declared.skip.Stop.{Stop}

-- the view of the code's answer is that of the definition
abbrev pub IsAnswer : {X Y : Type 0} → (X → Y) → Result X Stop → Result Y Stop → Type 0
IsAnswer view answer reported = MatchResult answer (λ x. reported ≡ Ok (view x)) (λ stop. reported ≡ Err stop)
