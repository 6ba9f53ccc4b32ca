use Rattle.std.proofs.Common.{rules, arith, ◌≡◌, ◌≤◌, ◌+◌, ◌++◌, [], ℕ, suc, List, false, length, refl, sym, ap, ap₂, ◌∙◌, subst, append_assoc, length-append, decimal}
use Rattle.std.specs.Io.{StartsWith}
use Rattle.std.proofs.lemmas.{Result.err_from_is_err_and, Bool.or_parts}
use Rattle.bd_value.specs.{Tree.doc, Tree.fields_of, Tree.items_of, Tree.values_of, Fits.has_zero}
use Rattle.bd_value.proofs.PrefixLemmas.{prefix_all, prefix_more, prefix_then}
use Rattle.bd_bson_view.specs.{Spelling.number, Spelling.string, Spelling.scoped, Spelling.element, Spelling.AreItems, Unique.number_length}
use Rattle.bd_bson_write.specs.TreeBytes.{bytes_of, fields_bytes, items_bytes}
use Rattle.bd_value.proofs.PartsLemmas as parted
use Rattle.bd_bson_write.proofs.WritingLemmas as writes
use Rattle.bd_bson_write.proofs.writing.+writing.Goals as goal

pub append_element-returns-clause-spells : goal.append_element-returns-clause-spells
append_element-returns-clause-spells g t c =
    writes.ok_on c.put_value.result _ _ c.put_value.ensures.spells (λ v. (writes.is_name c.args.name.now (search rules) (search rules), v))

pub append_fields-returns-in_err-append_element-clause-fault : goal.append_fields-returns-in_err-append_element-clause-fault
append_fields-returns-in_err-append_element-clause-fault g t c =
    let r = c.from_residual-in_err-append_element in
    let p = err_from_is_err_and r.result r.ensures.1 in
    let whole = rw c.in-Some.ensures.some at c.loop-next.invariant.whole in
    let le = writes.element_within c.args.out.now.items (fields_bytes (fields_of (g.N.Reading.remaining c.args.fields))) c.loop-next.out.items
    (element (g.N.Reading.tree c.in-Some.next.1) c.in-Some.next.0.now (bytes_of (g.N.Reading.tree c.in-Some.next.1)))
    (fields_bytes (fields_of (g.N.Reading.remaining c.in-Some.next.2))) whole in
    rw (p.1, p.2) (writes.overruns_more _ _ c.in_err-append_element.field-0.0 le c.in_err-append_element.ensures.fault)

pub append_fields-seal-requires : goal.append_fields-seal-requires
append_fields-seal-requires g t c =
    let none : g.N.Reading.remaining c.loop-next.rest ≡ [] = search rules in
    let out = writes.ended c.args.out.now.items (fields_bytes (fields_of (g.N.Reading.remaining c.args.fields))) c.loop-next.out.items _
    c.extend_from_slice.new.self.items c.loop-next.invariant.whole (ap (λ ps. fields_bytes (fields_of ps)) none) c.in_ok-extend_from_slice.ensures.items in
    let size = writes.sealed_size c.args.out.now.items _ c.extend_from_slice.new.self.items out in
    let at : c.len-at.result ≡ length c.args.out.now.items = search rules in
    search rules

pub append_fields-returns-clause-ok : goal.append_fields-returns-clause-ok
append_fields-returns-clause-ok g t c =
    let none : g.N.Reading.remaining c.loop-next.rest ≡ [] = search rules in
    let out = writes.ended c.args.out.now.items (fields_bytes (fields_of (g.N.Reading.remaining c.args.fields))) c.loop-next.out.items _
    c.extend_from_slice.new.self.items c.loop-next.invariant.whole (ap (λ ps. fields_bytes (fields_of ps)) none) c.in_ok-extend_from_slice.ensures.items in
    let at : c.len-at.result ≡ length c.args.out.now.items = search rules in
    writes.ok_on c.seal.result _ _ c.seal.ensures.ok (λ e. e ∙ writes.frame_ok c.args.out.now.items
    (fields_bytes (fields_of (g.N.Reading.remaining c.args.fields))) c.extend_from_slice.new.self.items c.len-at.result out at)

pub append_fields-returns-clause-fault : goal.append_fields-returns-clause-fault
append_fields-returns-clause-fault g t c =
    let none : g.N.Reading.remaining c.loop-next.rest ≡ [] = search rules in
    let out = writes.ended c.args.out.now.items (fields_bytes (fields_of (g.N.Reading.remaining c.args.fields))) c.loop-next.out.items _
    c.extend_from_slice.new.self.items c.loop-next.invariant.whole (ap (λ ps. fields_bytes (fields_of ps)) none) c.in_ok-extend_from_slice.ensures.items in
    let total = writes.frame_total c.args.out.now.items (fields_bytes (fields_of (g.N.Reading.remaining c.args.fields))) c.extend_from_slice.new.self.items out in
    writes.err_more c.seal.result _ _ c.seal.ensures.fault (omega (arith, total))

pub put_value-append_fields-requires : goal.put_value-append_fields-requires
put_value-append_fields-requires g t c κs within =
    let is = parted.doc_is (g.N.Reading.tree c.args.node) (g.N.Reading.remaining c.parts.result) (sym c.kind.ensures ∙ c.in-Doc.is) c.parts.ensures.parts in
    let s = parted.parts_smaller (g.N.Reading.tree c.args.node) (g.N.Reading.remaining c.parts.result) c.parts.ensures.parts in
    let e = c.decreases in
    (omega arith, (within.0, (within.1, rw is at c.requires)))

pub put_value-append_items-requires : goal.put_value-append_items-requires
put_value-append_items-requires g t c κs within =
    let is = parted.array_is (g.N.Reading.tree c.args.node) (g.N.Reading.remaining c.parts-in-Array.result) (sym c.kind.ensures ∙ c.in-Array.is) c.parts-in-Array.ensures.parts in
    let s = parted.parts_smaller (g.N.Reading.tree c.args.node) (g.N.Reading.remaining c.parts-in-Array.result) c.parts-in-Array.ensures.parts in
    let e = c.decreases in
    (omega arith, (within.0, (within.1, rw is at c.requires)))

pub put_value-returns-in-Doc : goal.put_value-returns-in-Doc
put_value-returns-in-Doc g t c =
    let is = parted.doc_is (g.N.Reading.tree c.args.node) (g.N.Reading.remaining c.parts.result) (sym c.kind.ensures ∙ c.in-Doc.is) c.parts.ensures.parts in
    let r = c.append_fields.ensures in
    record { ok = rw is r.ok; spells = rw is (writes.ok_on c.append_fields.result _ _ r.spells (λ are. (_, are, refl))); fault = rw is r.fault; prefix = r.prefix }

pub put_value-returns-in-Array : goal.put_value-returns-in-Array
put_value-returns-in-Array g t c =
    let is = parted.array_is (g.N.Reading.tree c.args.node) (g.N.Reading.remaining c.parts-in-Array.result) (sym c.kind.ensures ∙ c.in-Array.is) c.parts-in-Array.ensures.parts in
    let r = c.append_items.ensures in
    record { ok = rw is r.ok; spells = rw is (writes.ok_on c.append_items.result _ _ r.spells (λ are. (_, are, refl))); fault = rw is r.fault; prefix = r.prefix }

pub append_items-append_element-requires : goal.append_items-append_element-requires
append_items-append_element-requires g t c κs within =
    let less = rw c.in-Some.ensures.some at c.loop-next.invariant.fewer in
    let zero = rw c.in-Some.ensures.some at c.loop-next.invariant.zero in
    let e = c.decreases in
    let name : has_zero c.format.result.now ≡ false = rw c.format.ensures.text (writes.decimal_no_zero c.loop-next.index (search rules)) in
    (omega (arith, less, e), (within.0, (within.1, (name, (or_parts _ _ zero).0))))

pub append_items-returns-in_err-append_element-clause-fault : goal.append_items-returns-in_err-append_element-clause-fault
append_items-returns-in_err-append_element-clause-fault g t c =
    let r = c.from_residual-in_err-append_element in
    let p = err_from_is_err_and r.result r.ensures.1 in
    let name : c.format.result.now ≡ decimal c.loop-next.index = search rules in
    let whole = rw c.in-Some.ensures.some at c.loop-next.invariant.whole in
    let piece = element (g.N.Reading.tree c.in-Some.next.1) (decimal c.loop-next.index) (bytes_of (g.N.Reading.tree c.in-Some.next.1)) in
    let le = writes.element_within c.args.out.now.items (items_bytes 0 (items_of (values_of (g.N.Reading.remaining c.args.items)))) c.loop-next.out.items
    piece (items_bytes (suc c.loop-next.index) (items_of (values_of (g.N.Reading.remaining c.in-Some.next.2)))) whole in
    rw (p.1, p.2) (writes.overruns_more _ _ c.in_err-append_element.field-0.0 le (rw name at c.in_err-append_element.ensures.fault))

pub append_items-loop-next-preserved : goal.append_items-loop-next-preserved
append_items-loop-next-preserved g t c =
    let l = c.loop-next in
    let some = c.in-Some.ensures.some in
    let index = l.index in
    let name : c.format.result.now ≡ decimal index = c.format.ensures.text in
    let whole = rw some at l.invariant.whole in
    let spelled = rw some at l.invariant.spelled in
    let zero = rw some at l.invariant.zero in
    let less = rw some at l.invariant.fewer in
    let wrote = rw name at c.in_ok-append_element.ensures.ok.0 in
    let spells = rw name at c.in_ok-append_element.ensures.spells in
    let after = items_of (values_of (g.N.Reading.remaining c.in-Some.next.2)) in
    let piece = element (g.N.Reading.tree c.in-Some.next.1) (decimal index) (bytes_of (g.N.Reading.tree c.in-Some.next.1)) in
    let next : index + 1 ≡ suc index = omega arith in
    record {
      whole = ap₂ (λ (x : List ℕ) (n : ℕ). x ++ items_bytes n after) wrote next ∙ append_assoc l.out.items piece (items_bytes (suc index) after) ∙ whole;
      spelled = λ are. spelled (decimal index, _, _, spells.0, spells.1, subst (λ (n : ℕ). AreItems after (items_bytes n after)) next are, refl);
      prefix = prefix_more _ _ _ _ l.invariant.prefix wrote;
      zero = (or_parts _ _ zero).1;
      fewer = omega (arith, less);
      few = omega (arith, l.invariant.few, ap (λ (xs : List ℕ). length xs) wrote, length-append l.out.items piece);
    }

pub append_items-seal-requires : goal.append_items-seal-requires
append_items-seal-requires g t c =
    let none : g.N.Reading.remaining c.loop-next.rest ≡ [] = search rules in
    let out = writes.ended c.args.out.now.items (items_bytes 0 (items_of (values_of (g.N.Reading.remaining c.args.items)))) c.loop-next.out.items _
    c.extend_from_slice.new.self.items c.loop-next.invariant.whole (ap (λ ps. items_bytes c.loop-next.index (items_of (values_of ps))) none)
    c.in_ok-extend_from_slice.ensures.items in
    let size = writes.sealed_size c.args.out.now.items _ c.extend_from_slice.new.self.items out in
    let at : c.len-at.result ≡ length c.args.out.now.items = search rules in
    search rules

pub append_items-returns-clause-ok : goal.append_items-returns-clause-ok
append_items-returns-clause-ok g t c =
    let none : g.N.Reading.remaining c.loop-next.rest ≡ [] = search rules in
    let out = writes.ended c.args.out.now.items (items_bytes 0 (items_of (values_of (g.N.Reading.remaining c.args.items)))) c.loop-next.out.items _
    c.extend_from_slice.new.self.items c.loop-next.invariant.whole (ap (λ ps. items_bytes c.loop-next.index (items_of (values_of ps))) none)
    c.in_ok-extend_from_slice.ensures.items in
    let at : c.len-at.result ≡ length c.args.out.now.items = search rules in
    writes.ok_on c.seal.result _ _ c.seal.ensures.ok (λ e. e ∙ writes.frame_ok c.args.out.now.items
    (items_bytes 0 (items_of (values_of (g.N.Reading.remaining c.args.items)))) c.extend_from_slice.new.self.items c.len-at.result out at)

pub append_items-returns-clause-fault : goal.append_items-returns-clause-fault
append_items-returns-clause-fault g t c =
    let none : g.N.Reading.remaining c.loop-next.rest ≡ [] = search rules in
    let out = writes.ended c.args.out.now.items (items_bytes 0 (items_of (values_of (g.N.Reading.remaining c.args.items)))) c.loop-next.out.items _
    c.extend_from_slice.new.self.items c.loop-next.invariant.whole (ap (λ ps. items_bytes c.loop-next.index (items_of (values_of ps))) none)
    c.in_ok-extend_from_slice.ensures.items in
    let total = writes.frame_total c.args.out.now.items (items_bytes 0 (items_of (values_of (g.N.Reading.remaining c.args.items)))) c.extend_from_slice.new.self.items out in
    writes.err_more c.seal.result _ _ c.seal.ensures.fault (omega (arith, total))

pub append_leaf-returns-in_err-put_scalar-clause-fault : goal.append_leaf-returns-in_err-put_scalar-clause-fault
append_leaf-returns-in_err-put_scalar-clause-fault g t c =
    let code = writes.code_parts (g.N.Reading.tree c.args.node) _ _ (sym c.in-Some.ensures) (sym c.in-Some-scope.ensures.scope) in
    let r = c.from_residual-in_err-put_scalar in
    let p = err_from_is_err_and r.result r.ensures.1 in
    let scalar_leaf = rw code.3 at c.in_err-put_scalar.ensures.fault in
    let total = writes.scoped_size code.0 (bytes_of (doc code.1)) in
    let le : length c.append_number.new.out.items + length (string code.0) ≤ length c.args.out.now.items + length (scoped code.0 (bytes_of (doc code.1))) =
    omega (arith, total, ap (λ xs. length xs) c.in_ok-append_number.ensures.ok, length-append c.args.out.now.items (number 0), number_length 0) in
    rw (p.1, p.2, code.2) (writes.overruns_more _ _ c.in_err-put_scalar.field-0.0 le scalar_leaf)

pub append_leaf-returns-in_err-put_value-clause-fault : goal.append_leaf-returns-in_err-put_value-clause-fault
append_leaf-returns-in_err-put_value-clause-fault g t c =
    let code = writes.code_parts (g.N.Reading.tree c.args.node) _ _ (sym c.in-Some.ensures) (sym c.in-Some-scope.ensures.scope) in
    let r = c.from_residual-in_err-put_value in
    let p = err_from_is_err_and r.result r.ensures.1 in
    let scalar_leaf = rw code.3 at c.in_ok-put_scalar.ensures.ok in
    let inside = rw code.4 at c.in_err-put_value.ensures.fault in
    let le : length c.put_scalar-2.new.out.items + length (bytes_of (doc code.1)) ≤ length c.args.out.now.items + length (scoped code.0 (bytes_of (doc code.1))) =
    omega (
      arith,
      writes.opened c.args.out.now.items c.append_number.new.out.items c.put_scalar-2.new.out.items (string code.0) c.in_ok-append_number.ensures.ok scalar_leaf,
      writes.scoped_size code.0 (bytes_of (doc code.1)),
    ) in
    rw (p.1, p.2, code.2) (writes.overruns_more _ _ c.in_err-put_value.field-0.0 le inside)

pub append_leaf-seal-requires : goal.append_leaf-seal-requires
append_leaf-seal-requires g t c =
    let code = writes.code_parts (g.N.Reading.tree c.args.node) _ _ (sym c.in-Some.ensures) (sym c.in-Some-scope.ensures.scope) in
    let out = writes.code_out c.args.out.now.items _ _ c.put_value.new.out.items code.0 (bytes_of (doc code.1)) c.in_ok-append_number.ensures.ok
    (rw code.3 at c.in_ok-put_scalar.ensures.ok) (rw code.4 at c.in_ok-put_value.ensures.ok) in
    let at : c.len-at.result ≡ length c.args.out.now.items = search rules in
    let size = writes.sealed_size c.args.out.now.items _ c.put_value.new.out.items out in
    search rules

pub append_leaf-returns-clause-ok : goal.append_leaf-returns-clause-ok
append_leaf-returns-clause-ok g t c =
    let code = writes.code_parts (g.N.Reading.tree c.args.node) _ _ (sym c.in-Some.ensures) (sym c.in-Some-scope.ensures.scope) in
    let out = writes.code_out c.args.out.now.items _ _ c.put_value.new.out.items code.0 (bytes_of (doc code.1)) c.in_ok-append_number.ensures.ok
    (rw code.3 at c.in_ok-put_scalar.ensures.ok) (rw code.4 at c.in_ok-put_value.ensures.ok) in
    let at : c.len-at.result ≡ length c.args.out.now.items = search rules in
    rw code.2 (writes.ok_on c.seal.result _ _ c.seal.ensures.ok (λ e. e ∙ writes.scoped_ok c.args.out.now.items code.0 (bytes_of (doc code.1)) c.put_value.new.out.items c.len-at.result out at))

pub append_leaf-returns-clause-fault : goal.append_leaf-returns-clause-fault
append_leaf-returns-clause-fault g t c =
    let code = writes.code_parts (g.N.Reading.tree c.args.node) _ _ (sym c.in-Some.ensures) (sym c.in-Some-scope.ensures.scope) in
    let out = writes.code_out c.args.out.now.items _ _ c.put_value.new.out.items code.0 (bytes_of (doc code.1)) c.in_ok-append_number.ensures.ok
    (rw code.3 at c.in_ok-put_scalar.ensures.ok) (rw code.4 at c.in_ok-put_value.ensures.ok) in
    let size = writes.sealed_size c.args.out.now.items _ c.put_value.new.out.items out in
    let total = writes.scoped_size code.0 (bytes_of (doc code.1)) in
    rw code.2 (writes.err_more c.seal.result _ _ c.seal.ensures.fault (omega (arith, size, total, length-append (string code.0) (bytes_of (doc code.1)))))

pub append_leaf-returns-in_err-put_scalar-clause-prefix : goal.append_leaf-returns-in_err-put_scalar-clause-prefix
append_leaf-returns-in_err-put_scalar-clause-prefix g t c =
    let prefix : StartsWith c.put_scalar-2.new.out.items c.args.out.now.items = prefix_then _ _ _ (prefix_all _ _ c.in_ok-append_number.ensures.ok) c.in_err-put_scalar.ensures.prefix in
    grind (arith, prefix)

pub append_leaf-returns-in_err-put_value-clause-prefix : goal.append_leaf-returns-in_err-put_value-clause-prefix
append_leaf-returns-in_err-put_value-clause-prefix g t c =
    let code = prefix_more _ _ _ _ (prefix_all _ _ c.in_ok-append_number.ensures.ok) c.in_ok-put_scalar.ensures.ok in
    let prefix : StartsWith c.put_value.new.out.items c.args.out.now.items = prefix_then _ _ _ code c.in_err-put_value.ensures.prefix in
    grind (arith, prefix)
