-- The results of the definition for small texts.
use Rattle.std.proofs.Common.{◌≡◌, refl, ℕ, [], Ok, Err, codes}
use Rattle.bd_extjson_fault.specs.declared.skip.StopKind.{StopKind}
use Rattle.bd_extjson_fault.specs.declared.skip.StopKind.TheVariants.{Syntax, TooDeep, TrailingText}
use Rattle.bd_extjson_fault.specs.JsonSyntax.{Beyond, beyond_text, beyond_value, beyond_scalar, beyond_items, beyond_character, beyond_escape, beyond_units, beyond_unit, beyond_low, beyond_hex, beyond_string, beyond_name, beyond_next, beyond_parts, beyond_group, beyond_number, beyond_natural, beyond_digits, beyond_fraction, beyond_exponent, beyond_all, beyond_word}

abbrev stops : StopKind → ℕ → Beyond
stops kind remaining = Err (record { kind = kind; remaining = remaining })

-- {"a":[1,-0.5e+1,true]} and spaces
good : beyond_text (codes " { \"a\" : [ 1 , -0.5e+1, true ] } ") ≡ Ok []
unfolding beyond_text beyond_value beyond_scalar beyond_items beyond_character beyond_escape beyond_units beyond_unit beyond_low beyond_hex beyond_string beyond_name beyond_next beyond_parts beyond_group beyond_number beyond_natural beyond_digits beyond_fraction beyond_exponent beyond_all beyond_word
good = refl

-- 01: a complete value, then text
zero_one : beyond_text (codes "01") ≡ stops TrailingText 1
unfolding beyond_text beyond_value beyond_scalar beyond_items beyond_character beyond_escape beyond_units beyond_unit beyond_low beyond_hex beyond_string beyond_name beyond_next beyond_parts beyond_group beyond_number beyond_natural beyond_digits beyond_fraction beyond_exponent beyond_all beyond_word
zero_one = refl

-- {"a":01}: not JSON at the 1
inside : beyond_text (codes "{\"a\":01}") ≡ stops Syntax 2
unfolding beyond_text beyond_value beyond_scalar beyond_items beyond_character beyond_escape beyond_units beyond_unit beyond_low beyond_hex beyond_string beyond_name beyond_next beyond_parts beyond_group beyond_number beyond_natural beyond_digits beyond_fraction beyond_exponent beyond_all beyond_word
inside = refl

-- ends too soon
early : beyond_text (codes "{\"a\":") ≡ stops Syntax 0
unfolding beyond_text beyond_value beyond_scalar beyond_items beyond_character beyond_escape beyond_units beyond_unit beyond_low beyond_hex beyond_string beyond_name beyond_next beyond_parts beyond_group beyond_number beyond_natural beyond_digits beyond_fraction beyond_exponent beyond_all beyond_word
early = refl

-- a lone high surrogate, at its backslash
high : beyond_text (codes "\"\\ud800x\"") ≡ stops Syntax 8
unfolding beyond_text beyond_value beyond_scalar beyond_items beyond_character beyond_escape beyond_units beyond_unit beyond_low beyond_hex beyond_string beyond_name beyond_next beyond_parts beyond_group beyond_number beyond_natural beyond_digits beyond_fraction beyond_exponent beyond_all beyond_word
high = refl

-- a high surrogate at which the text ends
ends : beyond_text (codes "\"\\ud800\\ud") ≡ stops Syntax 0
unfolding beyond_text beyond_value beyond_scalar beyond_items beyond_character beyond_escape beyond_units beyond_unit beyond_low beyond_hex beyond_string beyond_name beyond_next beyond_parts beyond_group beyond_number beyond_natural beyond_digits beyond_fraction beyond_exponent beyond_all beyond_word
ends = refl

-- the first bracket beyond the limit
deep : beyond_value 2 (codes "[[[]]]") ≡ stops TooDeep 4
unfolding beyond_text beyond_value beyond_scalar beyond_items beyond_character beyond_escape beyond_units beyond_unit beyond_low beyond_hex beyond_string beyond_name beyond_next beyond_parts beyond_group beyond_number beyond_natural beyond_digits beyond_fraction beyond_exponent beyond_all beyond_word
deep = refl

-- the comma before a closing bracket
comma : beyond_text (codes "[1,]") ≡ stops Syntax 1
unfolding beyond_text beyond_value beyond_scalar beyond_items beyond_character beyond_escape beyond_units beyond_unit beyond_low beyond_hex beyond_string beyond_name beyond_next beyond_parts beyond_group beyond_number beyond_natural beyond_digits beyond_fraction beyond_exponent beyond_all beyond_word
comma = refl
