use Rattle.std.proofs.Common.{◌≡◌, ◌+◌, ◌-◌, ◌/◌, ◌%◌, ◌<◌, ℕ, sym, ◌∙◌, ap, length, refl, arith}
use Rattle.std.proofs.lemmas.List.{with_items_is}
use Rattle.sp_ots.specs.declared.param.OtsParam.TheVariants.{W4}
use Rattle.sp_lms.specs.Key.{Key}
use Rattle.sp_lms.specs.Keys as keys
use Rattle.sp_lms.specs.Parameters.{leaf_count}
use Rattle.sp_lms.specs.Parameters as lms
use Rattle.sp_hss.specs.KeyTree.{tree_signature, front_of, front_len, signature, signature_len, total}
use Rattle.sp_hss.specs.Signer.{Signer}
use Rattle.sp_hss.specs.declared.tree.Tree.TheVariants.{Lower}
use Rattle.sp_hss.proofs.Lengths.{length-front_of, leaf_of_index}
use Rattle.sp_hss.proofs.Validity.{seed_signatures_are_valid}
use Rattle.sp_hss.proofs.signer.Signer.sign.Goals as goal

pub go_to-requires-clause-room : goal.go_to-requires-clause-room
go_to-requires-clause-room c =
    let k = c.self.inside in
    ap length c.deref_mut.ensures.value ∙ ap length c.self.invariant.at.front_is ∙ length-front_of k.height k.seed (k.upper.used - 1)

pub split_at_mut-front-requires : goal.split_at_mut-front-requires
split_at_mut-front-requires c =
    let k = c.self.inside in
    let room : length c.deref_mut.result.now ≡ front_len k.height =
    ap length c.deref_mut.ensures.value ∙ ap length c.self.invariant.at.front_is ∙ length-front_of k.height k.seed (k.upper.used - 1) in
    let out : length c.args.out.now ≡ front_len k.height + lms.signature_len k.height W4 =
    c.requires ∙ sym (ap (λ (v : Signer). signature_len v.height) c.self.view_is) in
    omega (arith, c.len.ensures, c.deref_mut.ensures.len, room, out)

pub sign_next-requires-clause-room : goal.sign_next-requires-clause-room
sign_next-requires-clause-room c =
    let k = c.self.inside in
    let room : length c.deref_mut.result.now ≡ front_len k.height =
    ap length c.deref_mut.ensures.value ∙ ap length c.self.invariant.at.front_is ∙ length-front_of k.height k.seed (k.upper.used - 1) in
    let out : length c.args.out.now ≡ front_len k.height + lms.signature_len k.height W4 =
    c.requires ∙ sym (ap (λ (v : Signer). signature_len v.height) c.self.view_is) in
    let own : lms.signature_len c.go_to.new.lower.lms c.go_to.new.lower.ots ≡ lms.signature_len k.height W4 =
    ap (λ (v : Key). lms.signature_len v.lms v.ots) c.go_to.ensures.lower_is in
    omega (arith, c.len.ensures, c.deref_mut.ensures.len, room, out, own, c.split_at_mut-front.ensures.back_len)

pub returns-clause-signature : goal.returns-clause-signature
unfolding signature
returns-clause-signature c =
    let k = c.self.inside in
    let n = leaf_count k.height in
    let t = k.index / n in
    let long : length c.go_to.new.front ≡ k.front.len =
    ap length c.go_to.ensures.front_is ∙ length-front_of k.height k.seed t ∙ sym (length-front_of k.height k.seed (k.upper.used - 1))
    ∙ sym (ap length c.self.invariant.at.front_is)
    ∙ sym (ap length c.deref_mut.ensures.value) ∙ c.deref_mut.ensures.len in
    let front : c.copy_from_slice.new.self ≡ front_of k.height k.seed t =
    c.copy_from_slice.ensures.after ∙ c.deref.ensures.value ∙ with_items_is k.front c.go_to.new.front long ∙ c.go_to.ensures.front_is in
    let leaf : c.go_to.new.lower.used ≡ k.index % n = leaf_of_index n t k.index c.go_to.new.lower.used refl c.go_to.ensures.index_is in
    let tail : c.sign_next.new.out ≡ tree_signature k.height k.seed (Lower t) (k.index % n) c.args.msg.now =
    c.sign_next.ensures.signature ∙ ap (λ (v : Key). keys.signature v.lms v.ots v.id v.seed v.used c.args.msg.now) c.go_to.ensures.lower_is
    ∙ ap (λ (q : ℕ). tree_signature k.height k.seed (Lower t) q c.args.msg.now) leaf in
    rw (← c.self.view_is) (rw (front, tail) refl)

pub returns-clause-valid : goal.returns-clause-valid
returns-clause-valid c =
    let k = c.self.inside in
    let inside : k.index < total k.height = omega (arith, c.self.invariant.reserved, c.self.invariant.within, c.total.ensures) in
    let within : c.args.self.now.index < total c.args.self.now.height = rw (← c.self.view_is) inside in
    rw (returns-clause-signature c) (seed_signatures_are_valid c.args.self.now.height c.args.self.now.seed c.args.msg.now c.args.self.now.index within)
