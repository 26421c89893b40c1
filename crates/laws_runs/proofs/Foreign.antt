-- Effects that say nothing of the flows of one kind: nothing of theirs is delivered, acknowledged or sent.
use Rattle.std.proofs.Common.{◌≡◌, ℕ, ◌+◌, max, true, false, List, [], ◌∷◌, ◌++◌, refl, sym, ap, subst, ◌∙◌, inl, inr, arith}
use Rattle.std.specs.Prelude.{◌==◌, IsTrue}
use Rattle.std.specs.List.{flat_map}
use Rattle.std.proofs.lemmas.Bool.{cases_Bool}
use Rattle.std.proofs.lemmas.List.Concat.{flat_map-append}
use Rattle.sp_base.specs.declared.id.NodeId.{NodeId}
use Rattle.sp_msg.specs.declared.body.Ack.{Ack}
use Rattle.sp_msg.specs.declared.body.Body.{Body}
use Rattle.sp_msg.specs.declared.body.Body.TheVariants as bodies
use Rattle.sp_msg.specs.declared.effect.Effect.{Effect}
use Rattle.sp_msg.specs.declared.effect.Effect.TheVariants.{Signed}
use Rattle.sp_rules.specs.Arts.{Arts}
use Rattle.sp_rules.specs.Kflow.{ack_body}
use Rattle.sp_rules.specs.Window.{greatest}
use Rattle.sp_rules.specs.declared.kflow.FlowKind.{FlowKind}
use Rattle.sp_rules.specs.declared.kflow.FlowKind.TheVariants.{Plain, Paths}
use Rattle.laws_node.proofs.Spellings.{no_other_is_spelled_so}
use Rattle.laws_node.specs.Flows.{IsRelOf}
use Rattle.laws_node.specs.Inputs.{ReadsBack}
use Rattle.sp_runs.specs.Forgery.{is_among}
use Rattle.sp_runs.specs.Told.{delivered_by, signed_by}
use Rattle.laws_runs.specs.Acknowledged.{acks_in}
use Rattle.laws_runs.specs.LifeFlows.{acks_under}
use Rattle.laws_runs.proofs.FlowAcks.{NoneAcked, acked_ever, acked_here, acked_none, acked_other, IsNoAck, acks_both, under_both}
use Rattle.laws_runs.proofs.FlowPieces.{told_both, told_here, told_quiet}
use Rattle.laws_runs.proofs.Quiet.{Quiet}
use Rattle.laws_runs.proofs.Lists.{among_cons, among_or}

pub record Foreign (kind : FlowKind) (arts : Arts) (u s d : NodeId) (es : List Effect) : Type 0 where
  pub told : told_here kind u s d es ≡ []
  pub acks : NoneAcked kind arts u s d es
  pub signs : (m : Body) → IsRelOf kind m → IsTrue (arts.is_good m) → is_among (arts.spell m) (flat_map signed_by es) ≡ true → ⊥

pub foreign_quiet : (kind : FlowKind) (arts : Arts) (u s d : NodeId) (es : List Effect) → Quiet es → Foreign kind arts u s d es
foreign_quiet kind arts u s d es quiet = record {
  told = told_quiet kind u s d es quiet;
  acks = acked_none kind arts u s d es quiet.no_signature;
  signs = λ m is good among. let f : false ≡ true = rw quiet.no_signature at among in cc;
}

-- another message was signed
pub foreign_signed : (kind : FlowKind) (arts : Arts) → ReadsBack arts → (u s d : NodeId) (body : Body) → IsNoAck kind body → (IsRelOf kind body → ⊥)
    → IsTrue (arts.is_good body) → Foreign kind arts u s d (Signed (arts.spell body) ∷ [])
foreign_signed kind arts reads u s d body no_ack no_rel good = record {
  told = elim (cases_Bool (u.0 == d.0)) [ inl t ↦ rw t (unsaid kind) | inr t ↦ rw t refl ];
  acks = acked_other kind arts reads u s d (Signed (arts.spell body) ∷ []) body good no_ack refl;
  signs = λ m is good_m among. elim (among_cons (arts.spell m) (arts.spell body) [] among) [
    | inl e ↦ no_rel (subst (IsRelOf kind) (sym (no_other_is_spelled_so arts reads body m good good_m e)) is)
    | inr f ↦ absurd (let g : false ≡ true = f in cc)
  ];
}
  where
    unsaid : (k : FlowKind) → flat_map (delivered_by k s) (Signed (arts.spell body) ∷ []) ≡ []
    unsaid Plain = refl
    unsaid Paths = refl

-- what one list of effects acknowledges, and then another
pub acked_append : (kind : FlowKind) (arts : Arts) (x y : ℕ) (u s d : NodeId) (xs ys : List Effect)
    → acked_here kind arts x y u s d (xs ++ ys) ≡ max (acked_here kind arts x y u s d xs) (acked_here kind arts x y u s d ys)
acked_append kind arts x y u s d xs ys = elim (cases_Bool (u.0 == d.0)) [
  | inl t ↦
      rw t (ap (λ (ms : List (List ℕ)). greatest (acks_under kind arts s x d y ms)) (flat_map-append signed_by xs ys)
      ∙ under_both kind arts s x d y (flat_map signed_by xs) (flat_map signed_by ys))
  | inr t ↦ rw t (omega arith)
]

-- whatever the boots
pub ever_append : (kind : FlowKind) (arts : Arts) (u s d : NodeId) (xs ys : List Effect)
    → acked_ever kind arts u s d (xs ++ ys) ≡ max (acked_ever kind arts u s d xs) (acked_ever kind arts u s d ys)
ever_append kind arts u s d xs ys = elim (cases_Bool (u.0 == d.0)) [
  | inl t ↦
      rw t (ap (λ (ms : List (List ℕ)). greatest (acks_in kind arts s d ms)) (flat_map-append signed_by xs ys)
      ∙ acks_both kind arts s d (flat_map signed_by xs) (flat_map signed_by ys))
  | inr t ↦ rw t (omega arith)
]

-- both say nothing
pub foreign_both : (kind : FlowKind) (arts : Arts) (u s d : NodeId) (xs ys : List Effect) → Foreign kind arts u s d xs → Foreign kind arts u s d ys
    → Foreign kind arts u s d (xs ++ ys)
foreign_both kind arts u s d xs ys one two = record {
  told = told_both kind u s d xs ys ∙ rw (one.told, two.told) refl;
  acks = record {
    under = λ x y. let a = one.acks.under x y in let b = two.acks.under x y in let all = acked_append kind arts x y u s d xs ys in omega (arith, a, b, all);
    ever = let a = one.acks.ever in let b = two.acks.ever in let all = ever_append kind arts u s d xs ys in omega (arith, a, b, all);
  };
  signs = λ m is good among.
      elim (among_or (arts.spell m) (flat_map signed_by xs) (flat_map signed_by ys) (rw (flat_map-append signed_by xs ys) at among)) [
        | inl first ↦ one.signs m is good first
        | inr second ↦ two.signs m is good second
      ];
}

-- a message is no acknowledgement
pub rel_no_ack : (kind : FlowKind) (body : Body) → IsRelOf kind body → IsNoAck kind body
rel_no_ack Plain (bodies.Rel m) is = tt
rel_no_ack Paths (bodies.Krel m) is = tt
rel_no_ack Plain (bodies.Prio m) is = absurd is
rel_no_ack Plain (bodies.Ack m) is = absurd is
rel_no_ack Plain (bodies.Weight m) is = absurd is
rel_no_ack Plain (bodies.Krel m) is = absurd is
rel_no_ack Plain (bodies.Kack m) is = absurd is
rel_no_ack Plain (bodies.Epoch m) is = absurd is
rel_no_ack Paths (bodies.Prio m) is = absurd is
rel_no_ack Paths (bodies.Rel m) is = absurd is
rel_no_ack Paths (bodies.Ack m) is = absurd is
rel_no_ack Paths (bodies.Weight m) is = absurd is
rel_no_ack Paths (bodies.Kack m) is = absurd is
rel_no_ack Paths (bodies.Epoch m) is = absurd is

-- and an acknowledgement no message
pub ack_no_rel : (kind k : FlowKind) (a : Ack) → IsRelOf kind (ack_body k a) → ⊥
ack_no_rel Plain Plain a is = is
ack_no_rel Plain Paths a is = is
ack_no_rel Paths Plain a is = is
ack_no_rel Paths Paths a is = is

-- that of the other kind is none of this one
pub ack_apart : (kind k : FlowKind) (a : Ack) → (k ≡ kind → ⊥) → IsNoAck kind (ack_body k a)
ack_apart Plain Plain a apart = absurd (apart refl)
ack_apart Plain Paths a apart = tt
ack_apart Paths Plain a apart = tt
ack_apart Paths Paths a apart = absurd (apart refl)

-- a message of the other kind is none of this one
pub rel_apart : (kind k : FlowKind) (body : Body) → IsRelOf k body → (k ≡ kind → ⊥) → IsRelOf kind body → ⊥
rel_apart Plain Plain body is apart other = apart refl
rel_apart Paths Paths body is apart other = apart refl
rel_apart Plain Paths (bodies.Krel m) is apart other = other
rel_apart Paths Plain (bodies.Rel m) is apart other = other
rel_apart Plain Paths (bodies.Prio m) is apart other = absurd is
rel_apart Plain Paths (bodies.Rel m) is apart other = absurd is
rel_apart Plain Paths (bodies.Ack m) is apart other = absurd is
rel_apart Plain Paths (bodies.Weight m) is apart other = absurd is
rel_apart Plain Paths (bodies.Kack m) is apart other = absurd is
rel_apart Plain Paths (bodies.Epoch m) is apart other = absurd is
rel_apart Paths Plain (bodies.Prio m) is apart other = absurd is
rel_apart Paths Plain (bodies.Ack m) is apart other = absurd is
rel_apart Paths Plain (bodies.Weight m) is apart other = absurd is
rel_apart Paths Plain (bodies.Krel m) is apart other = absurd is
rel_apart Paths Plain (bodies.Kack m) is apart other = absurd is
rel_apart Paths Plain (bodies.Epoch m) is apart other = absurd is

-- and no message is an acknowledgement
pub rel_apart_ack : (kind k : FlowKind) (body : Body) → IsRelOf k body → IsNoAck kind body
rel_apart_ack Plain Plain body is = rel_no_ack Plain body is
rel_apart_ack Paths Paths body is = rel_no_ack Paths body is
rel_apart_ack Plain Paths (bodies.Krel m) is = tt
rel_apart_ack Paths Plain (bodies.Rel m) is = tt
rel_apart_ack Plain Paths (bodies.Prio m) is = absurd is
rel_apart_ack Plain Paths (bodies.Rel m) is = absurd is
rel_apart_ack Plain Paths (bodies.Ack m) is = absurd is
rel_apart_ack Plain Paths (bodies.Weight m) is = absurd is
rel_apart_ack Plain Paths (bodies.Kack m) is = absurd is
rel_apart_ack Plain Paths (bodies.Epoch m) is = absurd is
rel_apart_ack Paths Plain (bodies.Prio m) is = absurd is
rel_apart_ack Paths Plain (bodies.Ack m) is = absurd is
rel_apart_ack Paths Plain (bodies.Weight m) is = absurd is
rel_apart_ack Paths Plain (bodies.Krel m) is = absurd is
rel_apart_ack Paths Plain (bodies.Kack m) is = absurd is
rel_apart_ack Paths Plain (bodies.Epoch m) is = absurd is
