-- Worked rows of the reading of texts, by computation.
use Rattle.std.proofs.Common.{◌≡◌, true, pos, [], ◌∷◌, Some, None, refl}
use Rattle.std.specs.Prelude.{codes}
use Rattle.std.specs.Str.{is_utf8, chars}
use Rattle.json.proofs.OnLiterals.{json_on_literals}
use Rattle.hex.specs.Hex.{decode_pairs}
use Rattle.bd_value.specs.Tree.{leaf, array, code_scope, boolean, int32, int64, timestamp, item, no_items, field, no_fields}
use Rattle.bd_extjson_wrapper.specs.WholeNumber.{whole}
use Rattle.bd_extjson_wrapper.specs.Wrapper.{wrapper_of, only, pair}
use Rattle.bd_extjson.specs.Read.{reading}

bare : reading (codes "{\"a\":[-0,2147483648]}") ≡ Some ((97 ∷ [], array (item (leaf (int32 (pos 0))) (item (leaf (int64 (pos 2147483648))) no_items))) ∷ [])
unfolding json_on_literals whole wrapper_of is_utf8 chars
bare = refl

too_large : reading (codes "{\"a\":9223372036854775808}") ≡ None
unfolding json_on_literals whole wrapper_of is_utf8 chars
too_large = refl

no_id : reading (codes "{\"x\":{\"$oid\":\"00\"}}") ≡ None
unfolding json_on_literals whole wrapper_of is_utf8 chars decode_pairs
no_id = refl

twice : reading (codes "{\"a\":1,\"a\":2}") ≡ Some ((97 ∷ [], leaf (int32 (pos 1))) ∷ (97 ∷ [], leaf (int32 (pos 2))) ∷ [])
unfolding json_on_literals whole wrapper_of is_utf8 chars
twice = refl

either_order : reading (codes "{\"a\":{\"$timestamp\":{\"i\":2,\"t\":1}}}") ≡ Some ((97 ∷ [], leaf (timestamp 1 2)) ∷ [])
unfolding json_on_literals whole wrapper_of is_utf8 chars only pair
either_order = refl

scope_first : reading (codes "{\"a\":{\"$scope\":{\"b\":true},\"$code\":\"c\"}}") ≡ Some ((97 ∷ [], code_scope (99 ∷ []) (field (98 ∷ []) (leaf (boolean true)) no_fields)) ∷ [])
unfolding json_on_literals whole wrapper_of is_utf8 chars only pair
scope_first = refl

third_name : reading (codes "{\"a\":{\"$code\":\"c\",\"$scope\":{},\"d\":1}}") ≡ None
unfolding json_on_literals whole wrapper_of is_utf8 chars only pair
third_name = refl

no_document : reading (codes "[1]") ≡ None
unfolding json_on_literals whole wrapper_of is_utf8 chars
no_document = refl

text_after : reading (codes "{} x") ≡ None
unfolding json_on_literals whole wrapper_of is_utf8 chars
text_after = refl

zero_in_a_name : reading (codes "{\"a\\u0000\":1}") ≡ None
unfolding json_on_literals whole wrapper_of is_utf8 chars
zero_in_a_name = refl

lone_surrogate : reading (codes "{\"a\":\"\\ud800\"}") ≡ None
unfolding json_on_literals whole wrapper_of is_utf8 chars
lone_surrogate = refl
