-- The pairs of fresh frames rise, and the greatest pair is kept.
use Rattle.std.proofs.Common.{◌≡◌, ℕ, ◌≤◌, ◌==◌, ◌&&◌, nat_lt, Bool, true, false, inl, inr, List, [], ◌∷◌, ◌++◌, refl, sym, ◌∙◌, arith}
use Rattle.std.specs.Prelude.{max}
use Rattle.std.proofs.lemmas.Bool.{cases_Bool}
use Rattle.std.proofs.lemmas.Bool.Decides.{nat_tests}
use Rattle.sp_frame.specs.declared.head.Head.{Head}
use Rattle.sp_rules.specs.Link.{Link, after_answer, after_frame, is_above, link_answer, new_link, pair_of}
use Rattle.sp_rules.specs.declared.link.LinkAnswer.{LinkAnswer}
use Rattle.sp_rules.specs.declared.link.LinkAnswer.TheVariants as answers
use Rattle.laws_node.specs.LinkArrivals.{Arrival, Rise, after_all, fresh_pair, fresh_pairs, greatest, learned_pair, pairs}
use Rattle.laws_node.specs.LinkLaws.{BootIsKnown, FreshFramesRise, GreatestIsKept}

above_both : (p q r : ℕ × ℕ) → is_above p q ≡ true → is_above q r ≡ true → is_above p r ≡ true
above_both p q r a b = grind (arith, nat_tests)

lower : (p q : ℕ × ℕ) (qs : List (ℕ × ℕ)) → is_above q p ≡ true → Rise q qs → Rise p qs
lower p q [] a rise = tt
lower p q (r ∷ rs) a rise = (above_both r q p rise.0 a, rise.1)

-- a pair of counter 0 is above one of a lower boot alone
lower_boot : (boot peer_boot : ℕ) (p : ℕ × ℕ) → p.0 ≡ peer_boot → is_above (boot, 0) p ≡ nat_lt peer_boot boot
lower_boot boot peer_boot p known = elim (cases_Bool (nat_lt peer_boot boot)) [
  | inl t ↦ rw t (grind (arith, nat_tests))
  | inr t ↦ rw t (grind (arith, nat_tests))
]

-- what an answer leaves
pub record Goes (l : Link) (h : Head) (answer : LinkAnswer) : Type 0 where
  pub known : (after_answer l h answer).seen.0 ≡ (after_answer l h answer).peer_boot
  pub rise : (qs : List (ℕ × ℕ)) → Rise (after_answer l h answer).seen qs → Rise l.seen (fresh_pair h answer ++ qs)
  pub most : (qs : List (ℕ × ℕ)) → greatest l.seen ((fresh_pair h answer ++ learned_pair answer) ++ qs) ≡ greatest (after_answer l h answer).seen qs

learned : (l : Link) (h : Head) (boot : ℕ) → l.seen.0 ≡ l.peer_boot → l.peer_boot ≤ boot → Goes l h (answers.Learned boot)
learned l h boot known most = elim (cases_Bool (nat_lt l.peer_boot boot)) [
  | inl t ↦
      let above : is_above (boot, 0) l.seen ≡ true = lower_boot boot l.peer_boot l.seen known ∙ t in
      record { known = rw t refl; rise = rw t (λ qs r. lower l.seen (boot, 0) qs above r); most = rw t (λ qs. rw above refl) }
  | inr t ↦
      let above : is_above (boot, 0) l.seen ≡ false = lower_boot boot l.peer_boot l.seen known ∙ t in
      record { known = rw t (grind (arith, nat_tests)); rise = rw t (λ qs r. r); most = rw t (λ qs. rw above refl) }
]

-- where the neighbour's boot is that of the last frame, the link goes on as its answer says
pub one : (l : Link) (h : Head) (right : Bool) → l.seen.0 ≡ l.peer_boot → Goes l h (link_answer l h right)
one l h right known = elim (cases_Bool ((h.from.0 == l.peer.0) && (h.to.0 == l.me.0))) [
  | inr t ↦ rw t (record { known = known; rise = λ qs r. r; most = λ qs. refl })
  | inl t ↦ rw t (elim (cases_Bool right) [
    | inr s ↦ rw s (record { known = known; rise = λ qs r. r; most = λ qs. refl })
    | inl s ↦ rw s (elim (cases_Bool (h.echo == l.boot)) [
      | inr u ↦ rw u (learned l h (max l.peer_boot h.boot) known (omega arith))
      | inl u ↦ rw u (elim (cases_Bool (is_above (pair_of h) l.seen)) [
        | inr v ↦ rw v (record { known = known; rise = λ qs r. r; most = λ qs. refl })
        | inl v ↦ rw v (record { known = refl; rise = λ qs r. (v, r); most = λ qs. rw v refl })
      ])
    ])
  ])
]

-- ---- over all arrivals, from any link that knows the boot of the pair that it keeps
rises : (l : Link) (arrivals : List Arrival) → l.seen.0 ≡ l.peer_boot → Rise l.seen (fresh_pairs l arrivals)
rises l [] known = tt
rises l (a ∷ others) known =
    let first = one l a.head a.right known in
    first.rise (fresh_pairs (after_frame l a.head a.right) others) (rises (after_frame l a.head a.right) others first.known)

keeps : (l : Link) (arrivals : List Arrival) → l.seen.0 ≡ l.peer_boot → (after_all l arrivals).seen ≡ greatest l.seen (pairs l arrivals)
keeps l [] known = refl
keeps l (a ∷ others) known =
    let first = one l a.head a.right known in
    keeps (after_frame l a.head a.right) others first.known ∙ sym (first.most (pairs (after_frame l a.head a.right) others))

knows : (l : Link) (arrivals : List Arrival) → l.seen.0 ≡ l.peer_boot → (after_all l arrivals).seen.0 ≡ (after_all l arrivals).peer_boot
knows l [] known = known
knows l (a ∷ others) known = knows (after_frame l a.head a.right) others (one l a.head a.right known).known

-- ---- a new link knows it
pub fresh_frames_rise : FreshFramesRise
fresh_frames_rise me peer boot key arrivals = rises (new_link me peer boot key) arrivals refl

pub greatest_is_kept : GreatestIsKept
greatest_is_kept me peer boot key arrivals = keeps (new_link me peer boot key) arrivals refl

pub boot_is_known : BootIsKnown
boot_is_known me peer boot key arrivals = knows (new_link me peer boot key) arrivals refl
