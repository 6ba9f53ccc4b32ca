-- `$type` in a query.
use Rattle.std.proofs.Common.{◌≡◌, ◌∙◌, Some, ap, subst}
use Rattle.bd_value.specs.Tree.{AreParts, Doc, Tree, array, code_scope, doc, fields_of, fields_of-pairs_of, leaf, scope_of}
use Rattle.bd_wide_query.specs.Types.{fields_are_alike, is_alike}
use Rattle.bd_wide_query.specs.declared.types.NumberType.{NumberType}

-- the scope of code is alike if its fields are
pub scope_alike : (j k : NumberType) (t u : Tree) (ps : Doc) → Some u ≡ scope_of t → AreParts u ps → fields_are_alike j k (fields_of ps) ≡ is_alike j k t
scope_alike j k (code_scope s fs) u ps scope are =
    let is : u ≡ doc fs = cc in
    ap (fields_are_alike j k) (ap fields_of (subst (λ (v : Tree). AreParts v ps) is are) ∙ fields_of-pairs_of fs)
scope_alike j k (leaf s) u ps scope are = absurd (let no : ⊥ = cc in no)
scope_alike j k (doc fs) u ps scope are = absurd (let no : ⊥ = cc in no)
scope_alike j k (array ts) u ps scope are = absurd (let no : ⊥ = cc in no)
