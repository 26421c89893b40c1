use Rattle.std.proofs.Common.{◌≡◌, set, ◌∙◌, [], ◌∷◌, ◌++◌, Ok, List, sym, ap, subst}
use Rattle.std.specs.List.{position}
use Rattle.sp_hss.specs.KeyTree.{signature_len}
use Rattle.sp_hss.specs.Signer.{Signer}
use Rattle.sp_sign.specs.Heights.{param_of}
use Rattle.sp_adversary.specs.Crafters.{Crafters}
use Rattle.sp_adversary.specs.Crafting.{CraftsSignature, HasLength}
use Rattle.sp_adversary.specs.Signers.{AreWhole, Signs, is_crafter}
use Rattle.sp_adversary.specs.declared.crafters.Crafter.{Crafter}
use Rattle.sp_adversary.proofs.CrafterLemmas.{long_at, seen, signed_at, signed_first, whole_first}
use Rattle.sp_adversary.proofs.crafters.Crafters.signature.Goals as goal

pub invariant_of-self-in-None : goal.invariant_of-self-in-None
invariant_of-self-in-None c =
    let key = c.args.key in
    let message = c.args.message.now in
    let crafted = c.in_ok-crafted-in-None.crafted in
    let signs = subst (λ (s : Signer). Signs s message (Ok crafted) c.sign-in-None.new.signer) c.in_ok-signer-in-None.ensures
    c.in_ok-crafted-in-None.ensures.signed in
    subst (AreWhole c.self.inside.height c.self.inside.seed) (sym c.push_in_room.ensures.items)
    (subst (λ (items : List Crafter). AreWhole c.self.inside.height c.self.inside.seed (items ++ record { key = key; signer = c.sign-in-None.new.signer } ∷ []))
    (sym c.in_ok-reserve-in-None.ensures.items)
    (whole_first c.self.inside.format c.self.inside.height c.self.inside.seed c.self.inside.signers.items key message crafted c.sign-in-None.new.signer
    c.self.invariant signs))

pub returns-in-Some-clause-crafted : goal.returns-in-Some-clause-crafted
returns-in-Some-clause-crafted c =
    let format = c.self.inside.format in
    let h = c.self.inside.height in
    let seed = c.self.inside.seed in
    let items = c.self.inside.signers.items in
    let key = c.args.key in
    let message = c.args.message.now in
    let place = c.in-Some.place in
    let row = c.index_mut-crafter.result.now in
    let after = c.sign.new.signer in
    let at = ap (position (is_crafter key)) (sym c.deref.ensures.value) ∙ sym c.in-Some.ensures.place in
    subst (λ (s : Crafters). CraftsSignature s key message c.sign.result (seen format h seed (set items place (record { key = row.key; signer = after }))))
    c.self.view_is
    (signed_at format h seed items place key row message c.sign.result after c.self.invariant at c.index_mut-crafter.ensures.value c.sign.ensures.signed)

pub returns-in-Some-clause-long : goal.returns-in-Some-clause-long
returns-in-Some-clause-long c =
    let at = ap (position (is_crafter c.args.key)) (sym c.deref.ensures.value) ∙ sym c.in-Some.ensures.place in
    subst (λ (s : Crafters). HasLength (signature_len (param_of s.height)) c.sign.result) c.self.view_is
    (long_at c.self.inside.height c.self.inside.seed c.self.inside.signers.items c.in-Some.place c.args.key c.index_mut-crafter.result.now c.sign.result
    c.self.invariant at c.index_mut-crafter.ensures.value c.sign.ensures.long)

pub returns-in_ok-crafted-in-None-clause-crafted : goal.returns-in_ok-crafted-in-None-clause-crafted
returns-in_ok-crafted-in-None-clause-crafted c =
    let format = c.self.inside.format in
    let h = c.self.inside.height in
    let seed = c.self.inside.seed in
    let key = c.args.key in
    let message = c.args.message.now in
    let crafted = c.in_ok-crafted-in-None.crafted in
    let after = c.sign-in-None.new.signer in
    let signs = subst (λ (s : Signer). Signs s message (Ok crafted) after) c.in_ok-signer-in-None.ensures c.in_ok-crafted-in-None.ensures.signed in
    let done = signed_first format h seed c.self.inside.signers.items key message crafted after
    (ap (position (is_crafter key)) (sym c.deref.ensures.value) ∙ sym c.in-None.ensures.place) signs in
    let items : c.push_in_room.new.items.items ≡ c.self.inside.signers.items ++ record { key = key; signer = after } ∷ [] =
    c.push_in_room.ensures.items ∙ ap (λ (xs : List Crafter). xs ++ record { key = key; signer = after } ∷ []) c.in_ok-reserve-in-None.ensures.items in
    subst (λ (s : Crafters). CraftsSignature s key message (Ok crafted) (seen format h seed c.push_in_room.new.items.items)) c.self.view_is
    (subst (λ (xs : List Crafter). CraftsSignature (seen format h seed c.self.inside.signers.items) key message (Ok crafted) (seen format h seed xs))
    (sym items) done)
