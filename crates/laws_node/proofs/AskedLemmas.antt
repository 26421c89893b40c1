-- What was answered as new, of lists of answers, and what was signed, of lists of effects.
use Rattle.std.proofs.Common.{◌≡◌, ℕ, ◌+◌, List, [], ◌∷◌, ◌++◌, map, refl, sym, subst, arith}
use Rattle.std.specs.List.{flat_map}
use Rattle.std.proofs.lemmas.List.Concat.{flat_map-cons}
use Rattle.sp_msg.specs.declared.effect.Effect.{Effect}
use Rattle.sp_msg.specs.declared.effect.Effect.TheVariants.{Gone}
use Rattle.sp_msg.specs.declared.effect.Why.{Why}
use Rattle.sp_msg.specs.declared.effect.Why.TheVariants.{Expired}
use Rattle.sp_msg.specs.declared.kept.Kept.{Kept}
use Rattle.sp_rules.specs.Prio.{PrioState, expired_effects}
use Rattle.sp_rules.specs.PrioPeer.{PrioPeer}
use Rattle.sp_rules.specs.PrioPeer as rows
use Rattle.sp_rules.specs.Store.{expired_entries}
use Rattle.sp_rules.specs.declared.answers.Item.{Item}
use Rattle.sp_rules.specs.declared.store.Entry.{Entry}
use Rattle.laws_node.specs.Asked.{NewKeep, signatures}

-- what is kept of all answers is kept of the first ones
pub new_left : (P : Kept → Type 0) (xs ys : List (Kept × Item)) → NewKeep P (xs ++ ys) → NewKeep P xs
new_left P [] ys new = tt
new_left P (x ∷ xs) ys new = (new.0, new_left P xs ys new.1)

-- what is kept of all answers is kept of the last ones
pub new_right : (P : Kept → Type 0) (xs ys : List (Kept × Item)) → NewKeep P (xs ++ ys) → NewKeep P ys
new_right P [] ys new = new
new_right P (x ∷ xs) ys new = new_right P xs ys new.1

-- what is kept of two lists of answers is kept of both together
pub new_both : (P : Kept → Type 0) (xs ys : List (Kept × Item)) → NewKeep P xs → NewKeep P ys → NewKeep P (xs ++ ys)
new_both P [] ys one two = two
new_both P (x ∷ xs) ys one two = (one.0, new_both P xs ys one.1 two)

-- where nothing is answered nothing is asked of what is new
pub none_new : (P : Kept → Type 0) (xs : List (Kept × Item)) → xs ≡ [] → NewKeep P xs
none_new P [] e = tt
none_new P (x ∷ xs) e = absurd (cc)

-- ---- signatures

-- those of two lists of effects
pub signatures_both : (xs ys : List Effect) → signatures (xs ++ ys) ≡ signatures xs + signatures ys
signatures_both [] ys = omega arith
signatures_both (e ∷ xs) ys = let rest = signatures_both xs ys in omega (arith, rest)

unsigned_each : {X : Type 0} (f : X → List Effect) → ((x : X) → signatures (f x) ≡ 0) → (xs : List X) → signatures (flat_map f xs) ≡ 0
unsigned_each f none [] = refl
unsigned_each f none (x ∷ xs) =
    subst (λ (es : List Effect). signatures es ≡ 0) (sym (flat_map-cons f x xs))
    (let here = none x in let rest = unsigned_each f none xs in omega (arith, signatures_both (f x) (flat_map f xs), here, rest))

gone_unsigned : (place : ℕ) (why : Why) (es : List Entry) → signatures (map (λ e. Gone place e.id why) es) ≡ 0
gone_unsigned place why [] = refl
gone_unsigned place why (e ∷ es) = let rest = gone_unsigned place why es in omega (arith, rest)

-- what expires is told without a signature
pub expired_unsigned : (p : PrioState) (now : ℕ) → signatures (expired_effects p now) ≡ 0
expired_unsigned p now =
    let inbox = gone_unsigned 0 Expired (expired_entries p.inbox now) in
    let peers = unsigned_each (λ (q : PrioPeer). rows.expired_effects q.peer q.store now)
    (λ q. gone_unsigned q.peer Expired (expired_entries q.store now)) p.peers in
    omega (
      arith,
      signatures_both (rows.expired_effects 0 p.inbox now) (flat_map (λ (q : PrioPeer). rows.expired_effects q.peer q.store now) p.peers),
      inbox,
      peers,
    )
