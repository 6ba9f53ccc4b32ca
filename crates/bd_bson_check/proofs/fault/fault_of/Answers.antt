use Rattle.std.proofs.Common.{◌≡◌, refl, sym, ap, ◌∙◌, map, List, [], ◌∷◌, ◌++◌, ℕ, reverse, string_bytes}
use Rattle.std.proofs.lemmas.List.{map_push, reverse-append}
use Rattle.bd_bson_check.proofs.fault.fault_of.Goals as goal

-- the view of a reversed list is the reversed view
map-reverse : {A B : Type 0} (f : A → B) (xs : List A) → map f (reverse xs) ≡ reverse (map f xs)
map-reverse f [] = refl
map-reverse f (x ∷ xs) =
    ap (map f) (reverse-append (x ∷ []) xs) ∙ map_push f (reverse xs) x ∙ ap (λ l. l ++ f x ∷ []) (map-reverse f xs)
    ∙ sym (reverse-append (f x ∷ []) (map f xs))

pub returns-in-Found : goal.returns-in-Found
returns-in-Found c =
    let e = sym (ap (map string_bytes) c.reverse.ensures.items ∙ map-reverse string_bytes c.in-Found.found.path.items) in
    rw c.in-Found.is (record { same = ap (λ (path : List (List ℕ)). record { kind = c.in-Found.found.kind; offset = c.in-Found.found.offset; path = path }) e; document = refl })
