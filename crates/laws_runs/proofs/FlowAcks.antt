-- What a destination acknowledged of a flow, read off what it signed: under two boots, and ever.
use Rattle.std.proofs.Common.{◌≡◌, ◌≤◌, ℕ, max, Bool, true, false, cond, List, [], ◌∷◌, ◌++◌, Ok, refl, ap, ◌∙◌, inl, inr, arith}
use Rattle.std.specs.Prelude.{◌&&◌, ◌==◌, IsTrue}
use Rattle.std.specs.List.{flat_map}
use Rattle.std.proofs.lemmas.Bool.{cases_Bool, cases_eq, eq-eqb, ne_eqb}
use Rattle.std.proofs.lemmas.List.{append-nil}
use Rattle.std.proofs.lemmas.List.Concat.{flat_map-append}
use Rattle.sp_base.specs.declared.id.NodeId.{NodeId}
use Rattle.sp_msg.specs.declared.body.Ack.{Ack}
use Rattle.sp_msg.specs.declared.body.Body.{Body}
use Rattle.sp_msg.specs.declared.body.Body.TheVariants as bodies
use Rattle.sp_msg.specs.declared.effect.Effect.{Effect}
use Rattle.sp_rules.specs.Arts.{Arts}
use Rattle.sp_rules.specs.Flow.{boots_said, number_said}
use Rattle.sp_rules.specs.Kflow.{ack_body}
use Rattle.sp_rules.specs.Window.{greatest}
use Rattle.sp_rules.specs.declared.kflow.FlowKind.{FlowKind}
use Rattle.sp_rules.specs.declared.kflow.FlowKind.TheVariants.{Plain, Paths}
use Rattle.laws_node.specs.Flows.{IsAckOf}
use Rattle.laws_node.specs.Inputs.{ReadsBack}
use Rattle.sp_runs.specs.Forgery.{is_among}
use Rattle.sp_runs.specs.Told.{signed_by}
use Rattle.laws_runs.specs.Acknowledged.{ack_in, acks_in}
use Rattle.laws_runs.specs.LifeFlows.{ack_under, acks_under}
use Rattle.laws_runs.proofs.Lists.{among_cons}
use Rattle.laws_runs.proofs.Tables.{same_node}

-- ---- the greatest number

pub greatest_both : (xs ys : List ℕ) → greatest (xs ++ ys) ≡ max (greatest xs) (greatest ys)
greatest_both [] ys = omega arith
greatest_both (x ∷ xs) ys = let rest = greatest_both xs ys in omega (arith, rest)

pub acks_both : (kind : FlowKind) (arts : Arts) (s d : NodeId) (xs ys : List (List ℕ))
    → greatest (acks_in kind arts s d (xs ++ ys)) ≡ max (greatest (acks_in kind arts s d xs)) (greatest (acks_in kind arts s d ys))
acks_both kind arts s d xs ys = ap greatest (flat_map-append (λ bytes. ack_in kind s d (arts.read bytes)) xs ys) ∙ greatest_both (acks_in kind arts s d xs)
    (acks_in kind arts s d ys)

pub under_both : (kind : FlowKind) (arts : Arts) (s : NodeId) (x : ℕ) (d : NodeId) (y : ℕ) (xs ys : List (List ℕ))
    → greatest (acks_under kind arts s x d y (xs ++ ys)) ≡ max (greatest (acks_under kind arts s x d y xs)) (greatest (acks_under kind arts s x d y ys))
under_both kind arts s x d y xs ys =
    ap greatest (flat_map-append (λ bytes. ack_under kind s x d y (arts.read bytes)) xs ys)
    ∙ greatest_both (acks_under kind arts s x d y xs) (acks_under kind arts s x d y ys)

-- ---- the acknowledgements of a kind

-- one of this kind is read as it is
under_is : (kind : FlowKind) (s : NodeId) (x : ℕ) (d : NodeId) (y : ℕ) (body : Body) → IsAckOf kind (record { src = s; dst = d }) body
    → boots_said body ≡ (x, y)
    → ack_under kind s x d y (Ok body) ≡ number_said body ∷ []
under_is Plain s x d y (bodies.Ack a) is boots =
    rw (
      eq-eqb a.src.0 s.0 (ap (λ (v : NodeId). v.0) is.0),
      eq-eqb a.dst.0 d.0 (ap (λ (v : NodeId). v.0) is.1),
      eq-eqb a.sboot x (ap (λ (b : ℕ × ℕ). b.0) boots),
      eq-eqb a.dboot y (ap (λ (b : ℕ × ℕ). b.1) boots),
    ) refl
under_is Paths s x d y (bodies.Kack a) is boots =
    rw (
      eq-eqb a.src.0 s.0 (ap (λ (v : NodeId). v.0) is.0),
      eq-eqb a.dst.0 d.0 (ap (λ (v : NodeId). v.0) is.1),
      eq-eqb a.sboot x (ap (λ (b : ℕ × ℕ). b.0) boots),
      eq-eqb a.dboot y (ap (λ (b : ℕ × ℕ). b.1) boots),
    ) refl
under_is Plain s x d y (bodies.Rel a) is boots = absurd is
under_is Plain s x d y (bodies.Prio a) is boots = absurd is
under_is Plain s x d y (bodies.Weight a) is boots = absurd is
under_is Plain s x d y (bodies.Krel a) is boots = absurd is
under_is Plain s x d y (bodies.Kack a) is boots = absurd is
under_is Plain s x d y (bodies.Epoch a) is boots = absurd is
under_is Paths s x d y (bodies.Rel a) is boots = absurd is
under_is Paths s x d y (bodies.Prio a) is boots = absurd is
under_is Paths s x d y (bodies.Weight a) is boots = absurd is
under_is Paths s x d y (bodies.Krel a) is boots = absurd is
under_is Paths s x d y (bodies.Ack a) is boots = absurd is
under_is Paths s x d y (bodies.Epoch a) is boots = absurd is

-- an acknowledgement among those that were signed is at most the greatest of its boots
pub ack_among : (kind : FlowKind) (arts : Arts) → ReadsBack arts → (s d : NodeId) (x y : ℕ) (body : Body) (xs : List (List ℕ)) → IsTrue (arts.is_good body)
    → IsAckOf kind (record { src = s; dst = d }) body → boots_said body ≡ (x, y)
    → is_among (arts.spell body) xs ≡ true → number_said body ≤ greatest (acks_under kind arts s x d y xs)
ack_among kind arts reads s d x y body [] good is boots among = absurd (let f : false ≡ true = among in cc)
ack_among kind arts reads s d x y body (z ∷ xs) good is boots among = elim (among_cons (arts.spell body) z xs among) [
  | inl e ↦
      let read : ack_under kind s x d y (arts.read z) ≡ ack_under kind s x d y (Ok body) =
      ap (λ b. ack_under kind s x d y (arts.read b)) e ∙ ap (ack_under kind s x d y) (reads body good) in
      let first : greatest (ack_under kind s x d y (arts.read z)) ≡ greatest (number_said body ∷ []) =
      ap greatest (read ∙ under_is kind s x d y body is boots) in
      let all = greatest_both (ack_under kind s x d y (arts.read z)) (acks_under kind arts s x d y xs) in
      omega (arith, first, all)
  | inr later ↦
      let rest = ack_among kind arts reads s d x y body xs good is boots later in
      let all = greatest_both (ack_under kind s x d y (arts.read z)) (acks_under kind arts s x d y xs) in
      omega (arith, rest, all)
]

-- ---- what the effects at u say that d acknowledged

-- under these boots
abbrev pub acked_here : FlowKind → Arts → ℕ → ℕ → NodeId → NodeId → NodeId → List Effect → ℕ
acked_here kind arts x y u s d es = greatest (acks_under kind arts s x d y (cond (u.0 == d.0) (flat_map signed_by es) []))

-- and whatever the boots
abbrev pub acked_ever : FlowKind → Arts → NodeId → NodeId → NodeId → List Effect → ℕ
acked_ever kind arts u s d es = greatest (acks_in kind arts s d (cond (u.0 == d.0) (flat_map signed_by es) []))

-- nothing of this flow is acknowledged
pub record NoneAcked (kind : FlowKind) (arts : Arts) (u s d : NodeId) (es : List Effect) : Type 0 where
  pub under : (x y : ℕ) → acked_here kind arts x y u s d es ≡ 0
  pub ever : acked_ever kind arts u s d es ≡ 0

pub acked_none : (kind : FlowKind) (arts : Arts) (u s d : NodeId) (es : List Effect) → flat_map signed_by es ≡ [] → NoneAcked kind arts u s d es
acked_none kind arts u s d es e = record {
  under = λ x y. elim (cases_Bool (u.0 == d.0)) [ inl t ↦ rw (t, e) refl | inr t ↦ rw t refl ];
  ever = elim (cases_Bool (u.0 == d.0)) [ inl t ↦ rw (t, e) refl | inr t ↦ rw t refl ];
}

-- a message that was signed is read as it is
pub acked_one : (kind : FlowKind) (arts : Arts) → ReadsBack arts → (x y : ℕ) (u s d : NodeId) (es : List Effect) (body : Body) → IsTrue (arts.is_good body)
    → flat_map signed_by es ≡ arts.spell body ∷ [] → u ≡ d
    → (acked_here kind arts x y u s d es ≡ greatest (ack_under kind s x d y (Ok body))) × (acked_ever kind arts u s d es ≡ greatest (ack_in kind s d (Ok body)))
acked_one kind arts reads x y u s d es body good e z =
    let here : (u.0 == d.0) ≡ true = eq-eqb _ _ (ap (λ (v : NodeId). v.0) z) in
    let read : ack_under kind s x d y (arts.read (arts.spell body)) ≡ ack_under kind s x d y (Ok body) = ap (ack_under kind s x d y) (reads body good) in
    let ever : ack_in kind s d (arts.read (arts.spell body)) ≡ ack_in kind s d (Ok body) = ap (ack_in kind s d) (reads body good) in (
      rw (here, e) (ap greatest (append-nil (ack_under kind s x d y (arts.read (arts.spell body)))) ∙ ap greatest read),
      rw (here, e) (ap greatest (append-nil (ack_in kind s d (arts.read (arts.spell body)))) ∙ ap greatest ever),
    )

pub acked_away : (kind : FlowKind) (arts : Arts) (u s d : NodeId) (es : List Effect) → (u ≡ d → ⊥) → NoneAcked kind arts u s d es
acked_away kind arts u s d es never =
    let away : (u.0 == d.0) ≡ false = ne_eqb _ _ (λ e. never (same_node u d e)) in
    record { under = λ x y. rw away refl; ever = rw away refl }

-- a message that isn't an acknowledgement of this kind
abbrev pub IsNoAck : FlowKind → Body → Type 0
IsNoAck Plain (bodies.Ack a) = ⊥
IsNoAck Paths (bodies.Kack a) = ⊥
IsNoAck kind _ = Unit {0}

no_ack : (kind : FlowKind) (s : NodeId) (x : ℕ) (d : NodeId) (y : ℕ) (body : Body) → IsNoAck kind body
    → (greatest (ack_under kind s x d y (Ok body)) ≡ 0) × (greatest (ack_in kind s d (Ok body)) ≡ 0)
no_ack Plain s x d y (bodies.Prio w) is = (refl, refl)
no_ack Plain s x d y (bodies.Rel w) is = (refl, refl)
no_ack Plain s x d y (bodies.Weight w) is = (refl, refl)
no_ack Plain s x d y (bodies.Ack w) is = absurd is
no_ack Plain s x d y (bodies.Krel w) is = (refl, refl)
no_ack Plain s x d y (bodies.Kack w) is = (refl, refl)
no_ack Plain s x d y (bodies.Epoch w) is = (refl, refl)
no_ack Paths s x d y (bodies.Prio w) is = (refl, refl)
no_ack Paths s x d y (bodies.Rel w) is = (refl, refl)
no_ack Paths s x d y (bodies.Weight w) is = (refl, refl)
no_ack Paths s x d y (bodies.Ack w) is = (refl, refl)
no_ack Paths s x d y (bodies.Krel w) is = (refl, refl)
no_ack Paths s x d y (bodies.Kack w) is = absurd is
no_ack Paths s x d y (bodies.Epoch w) is = (refl, refl)

pub acked_other : (kind : FlowKind) (arts : Arts) → ReadsBack arts → (u s d : NodeId) (es : List Effect) (body : Body) → IsTrue (arts.is_good body)
    → IsNoAck kind body
    → flat_map signed_by es ≡ arts.spell body ∷ [] → NoneAcked kind arts u s d es
acked_other kind arts reads u s d es body good is e = elim (cases_eq u.0 d.0) [
  | inl z ↦
      let ud = same_node u d z in
      record {
        under = λ x y. (acked_one kind arts reads x y u s d es body good e ud).0 ∙ (no_ack kind s x d y body is).0;
        ever = (acked_one kind arts reads 0 0 u s d es body good e ud).1 ∙ (no_ack kind s 0 d 0 body is).1;
      }
  | inr never ↦ acked_away kind arts u s d es (λ z. never (ap (λ (v : NodeId). v.0) z))
]

-- those of both kinds say the same alike
under_alike : (kind : FlowKind) (s : NodeId) (x : ℕ) (d : NodeId) (y : ℕ) (a : Ack)
    → ack_under kind s x d y (Ok (ack_body kind a)) ≡ ack_under Plain s x d y (Ok (bodies.Ack a))
under_alike Plain s x d y a = refl
under_alike Paths s x d y a = refl

in_alike : (kind : FlowKind) (s d : NodeId) (a : Ack) → ack_in kind s d (Ok (ack_body kind a)) ≡ ack_in Plain s d (Ok (bodies.Ack a))
in_alike Plain s d a = refl
in_alike Paths s d a = refl

-- that of a flow under its boots has its number
pub named : (kind : FlowKind) (s d : NodeId) (x y : ℕ) (a : Ack) → a.src ≡ s → a.dst ≡ d → a.sboot ≡ x → a.dboot ≡ y
    → (greatest (ack_under kind s x d y (Ok (ack_body kind a))) ≡ a.seq) × (greatest (ack_in kind s d (Ok (ack_body kind a))) ≡ a.seq)
named kind s d x y a src dst one two =
    let same_src = eq-eqb a.src.0 s.0 (ap (λ (v : NodeId). v.0) src) in
    let same_dst = eq-eqb a.dst.0 d.0 (ap (λ (v : NodeId). v.0) dst) in (
      ap greatest (under_alike kind s x d y a) ∙ rw (same_src, same_dst, eq-eqb a.sboot x one, eq-eqb a.dboot y two) (omega arith),
      ap greatest (in_alike kind s d a) ∙ rw (same_src, same_dst) (omega arith),
    )

-- that of another source has none
pub not_from : (kind : FlowKind) (s d : NodeId) (x y : ℕ) (a : Ack) → (a.src.0 == s.0) ≡ false
    → (greatest (ack_under kind s x d y (Ok (ack_body kind a))) ≡ 0) × (greatest (ack_in kind s d (Ok (ack_body kind a))) ≡ 0)
not_from kind s d x y a other = (ap greatest (under_alike kind s x d y a) ∙ rw other refl, ap greatest (in_alike kind s d a) ∙ rw other refl)

-- an acknowledgement that names other boots
pub not_named : (kind : FlowKind) (s d : NodeId) (x y : ℕ) (a : Ack) → (a.sboot ≡ x → a.dboot ≡ y → ⊥)
    → greatest (ack_under kind s x d y (Ok (ack_body kind a))) ≡ 0
not_named kind s d x y a never = ap greatest (under_alike kind s x d y a) ∙ elim (cases_eq a.sboot x) [
  | inl p ↦ elim (cases_eq a.dboot y) [
    | inl q ↦ absurd (never p q)
    | inr q ↦ nothing a ((a.src.0 == s.0) && (a.dst.0 == d.0)) ((a.sboot == x) && (a.dboot == y))
        (let z : (a.dboot == y) ≡ false = ne_eqb _ _ q in rw z (and_false (a.sboot == x)))
  ]
  | inr p ↦ nothing a ((a.src.0 == s.0) && (a.dst.0 == d.0)) ((a.sboot == x) && (a.dboot == y))
      (let z : (a.sboot == x) ≡ false = ne_eqb _ _ p in rw z refl)
]
  where
    and_false : (t : Bool) → (t && false) ≡ false
    and_false true = refl
    and_false false = refl

    nothing : (a : Ack) (t b : Bool) → b ≡ false → greatest (cond (t && b) (a.seq ∷ []) []) ≡ 0
    nothing a true b e = rw e refl
    nothing a false b e = refl

-- what signs the same acknowledges the same
pub acked_same : (kind : FlowKind) (arts : Arts) (x y : ℕ) (u s d : NodeId) (es fs : List Effect) → flat_map signed_by es ≡ flat_map signed_by fs
    → acked_here kind arts x y u s d es ≡ acked_here kind arts x y u s d fs
acked_same kind arts x y u s d es fs e = ap (λ (ms : List (List ℕ)). greatest (acks_under kind arts s x d y (cond (u.0 == d.0) ms []))) e

pub acked_ever_same : (kind : FlowKind) (arts : Arts) (u s d : NodeId) (es fs : List Effect) → flat_map signed_by es ≡ flat_map signed_by fs
    → acked_ever kind arts u s d es ≡ acked_ever kind arts u s d fs
acked_ever_same kind arts u s d es fs e = ap (λ (ms : List (List ℕ)). greatest (acks_in kind arts s d (cond (u.0 == d.0) ms []))) e
