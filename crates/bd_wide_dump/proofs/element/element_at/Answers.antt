use Rattle.std.proofs.Common.{◌≡◌, ◌+◌, ◌∙◌, ℕ, ap, refl, arith, length, None, Some, sym}
use Rattle.bd_wide_dump.proofs.ElementLemmas as s
use Rattle.bd_wide_dump.proofs.element.element_at.Goals as goal

pub bounds-bytes-at : goal.bounds-bytes-at
bounds-bytes-at c = s.byte_there c.args.bytes.now c.args.at c.requires.elements

pub returns-then-byte-eq0-clause-some : goal.returns-then-byte-eq0-clause-some
returns-then-byte-eq0-clause-some c = λ e. tt

pub returns-then-byte-eq0-clause-none : goal.returns-then-byte-eq0-clause-none
returns-then-byte-eq0-clause-none c = λ e. s.at_end c.args.bytes.now c.args.at e c.if-byte-eq0.true

pub unreachable-requires : goal.unreachable-requires
unreachable-requires c =
    let n = s.next_of c.args.bytes.now c.args.at c.requires.elements c.if-byte-eq0.false in
    let e : None ≡ Some n.type = sym c.in_default.is ∙ c.element_type.ensures ∙ s.type_here n in
    cc

pub name-requires : goal.name-requires
name-requires c =
    let n = s.next_of c.args.bytes.now c.args.at c.requires.elements c.if-byte-eq0.false in
    s.name_at n _ c.split_at.ensures.back

pub size-requires : goal.size-requires
size-requires c =
    let n = s.next_of c.args.bytes.now c.args.at c.requires.elements c.if-byte-eq0.false in
    s.size_reads n c.split_at.result.1.now c.name.result.1.now (length c.name.result.0.now) c.split_at.ensures.back c.name.ensures.after c.name.ensures.size
    c.requires.short c.in-Some.typed (sym c.element_type.ensures ∙ c.in-Some.is)

pub overflow_add-start : goal.overflow_add-start
overflow_add-start c =
    let n = s.next_of c.args.bytes.now c.args.at c.requires.elements c.if-byte-eq0.false in
    let k = c.name.ensures.size ∙ s.name_ends n _ c.split_at.ensures.back in
    let f = s.fits n (length c.name.result.0.now) k in
    let short = c.requires.short in
    omega arith

pub overflow_add-next : goal.overflow_add-next
overflow_add-next c =
    let n = s.next_of c.args.bytes.now c.args.at c.requires.elements c.if-byte-eq0.false in
    let f = s.next_fits n c.split_at.result.1.now c.name.result.1.now (length c.name.result.0.now) c.split_at.ensures.back c.name.ensures.after c.name.ensures.size
    c.requires.short c.in-Some.typed (sym c.element_type.ensures ∙ c.in-Some.is) in
    let short = c.requires.short in
    let size = c.size.ensures in
    omega arith

pub returns-clause-some : goal.returns-clause-some
returns-clause-some c = λ e.
    let n = s.next_of c.args.bytes.now c.args.at e c.if-byte-eq0.false in
    s.output n c.split_at.result.1.now c.name.result.1.now (length c.name.result.0.now) c.split_at.ensures.back c.name.ensures.after c.name.ensures.size
    c.requires.short c.in-Some.typed (sym c.element_type.ensures ∙ c.in-Some.is) c.name.result.0.now _ _ c.name.ensures.text refl
    (ap (λ (k : ℕ). c.args.at + length c.name.result.0.now + 2 + k) c.size.ensures)
