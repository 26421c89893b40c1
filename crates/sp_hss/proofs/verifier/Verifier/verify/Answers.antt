use Rattle.std.proofs.Common.{◌≡◌, ℕ, List, ◌++◌, length, take, ◌∙◌, sym, ap, arith}
use Rattle.std.specs.Bool.{IsTrue}
use Rattle.std.proofs.lemmas.List.{length-take-le}
use Rattle.sp_lms.specs.Validity as tree
use Rattle.sp_hss.specs.Validity.{IsValid}
use Rattle.sp_hss.specs.Front.{lower_key_of, IsFrontUnder}
use Rattle.sp_hss.proofs.Fronts.{valid_after_front, lower_valid, front_of_valid}
use Rattle.sp_hss.proofs.verifier.Verifier.verify.Goals as goal

pub returns-in-Some-clause-answer : goal.returns-in-Some-clause-answer
returns-in-Some-clause-answer c =
    let k = c.self.inside in
    let msg = c.args.msg.now in
    let lower = c.in-Some.lower.now in
    let known : IsFrontUnder k.public.items k.front.items = c.self.invariant.known c.if-self.true in
    let whole : c.args.sig.now ≡ k.front.items ++ lower = c.in-Some.ensures ∙ ap (λ (xs : List ℕ). xs ++ lower) c.deref.ensures.value in
    let key : c.lower_key.result.now ≡ lower_key_of k.front.items = c.lower_key.ensures ∙ ap lower_key_of c.deref-in-Some.ensures.value in
    let told : (IsTrue c.verify.result → tree.IsValid c.lower_key.result.now msg lower)
    × (tree.IsValid c.lower_key.result.now msg lower → IsTrue c.verify.result) =
    c.verify.ensures in
    let ways = rw key at told in
    rw (← c.self.view_is, whole) (
      λ right. valid_after_front k.public.items k.front.items lower msg known (ways.0 right),
      λ valid. ways.1 (lower_valid k.public.items k.front.items lower msg known valid),
    )

pub slice_bounds-copy_from_slice-end : goal.slice_bounds-copy_from_slice-end
slice_bounds-copy_from_slice-end c =
    let k = c.self.inside in
    let len : c.len-len.result ≡ length k.front.items = omega (arith, c.len-len.ensures, k.front.ok) in
    let valid : IsValid k.public.items c.args.msg.now c.args.sig.now = rw c.deref-2.ensures.value at (c.verify-is_valid.ensures.0 c.if-is_valid.true) in
    let found = front_of_valid k.public.items c.args.msg.now c.args.sig.now (length k.front.items) (c.self.invariant.room (omega (arith, len))) valid in
    sym (length-take-le c.len-len.result c.args.sig.now (omega (arith, len, found.0)))

pub copy_from_slice-requires : goal.copy_from_slice-requires
copy_from_slice-requires c = sym c.len-len.ensures ∙ slice_bounds-copy_from_slice-end c

pub invariant_of-self : goal.invariant_of-self
invariant_of-self c =
    let k = c.self.inside in
    let len : c.len-len.result ≡ length k.front.items = omega (arith, c.len-len.ensures, k.front.ok) in
    let valid : IsValid k.public.items c.args.msg.now c.args.sig.now = rw c.deref-2.ensures.value at (c.verify-is_valid.ensures.0 c.if-is_valid.true) in
    let found = front_of_valid k.public.items c.args.msg.now c.args.sig.now (length k.front.items) (c.self.invariant.room (omega (arith, len))) valid in
    let front : c.copy_from_slice.new.self.items ≡ take (length k.front.items) c.args.sig.now =
    c.copy_from_slice.ensures.items ∙ ap (λ (n : ℕ). take n c.args.sig.now) len in
    let same : length c.copy_from_slice.new.self.items ≡ length k.front.items =
    ap length front ∙ length-take-le (length k.front.items) c.args.sig.now found.0 in
    record {
      room = rw same c.self.invariant.room;
      known = λ _. rw front found.1;
    }

pub returns-then-len-gt0-clause-answer : goal.returns-then-len-gt0-clause-answer
returns-then-len-gt0-clause-answer c = rw (c.deref-2.ensures.value, c.self.view_is) at c.verify-is_valid.ensures

pub returns-else-is_valid-clause-answer : goal.returns-else-is_valid-clause-answer
returns-else-is_valid-clause-answer c = rw (c.deref-2.ensures.value, c.self.view_is) at c.verify-is_valid.ensures
