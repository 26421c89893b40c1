-- What effects make of a place.
use Rattle.sp_base.specs.declared.id.Flow.{Flow}
use Rattle.laws_runs.specs.Places.{FreshIf, Shelf, Steps, shelf_after, shelf_by}
use Rattle.std.proofs.Common.{◌≡◌, ℕ, ◌+◌, ◌==◌, false, List, [], ◌∷◌, ◌++◌, refl, sym, ap, subst, ◌∙◌}
use Rattle.std.proofs.lemmas.Bool.{ne_eqb}
use Rattle.sp_base.specs.declared.id.EdgeId.{EdgeId}
use Rattle.sp_base.specs.declared.id.Flow.{Flow}
use Rattle.sp_base.specs.declared.id.NodeId.{NodeId}
use Rattle.sp_msg.specs.declared.effect.Effect.{Effect}
use Rattle.sp_msg.specs.declared.effect.Effect.TheVariants as effects
use Rattle.sp_msg.specs.declared.effect.Why.{Why}
use Rattle.sp_msg.specs.declared.effect.Why.TheVariants as whys
use Rattle.sp_runs.specs.Held.{ShareIf}

-- from this shelf effects lead to that one, all fresh, and each eviction leaves a share
pub record Leads (capacity p : ℕ) (st : Shelf) (es : List Effect) (after : Shelf) : Type 0 where
  pub held : shelf_by p st es ≡ after
  pub shares : Steps capacity p st es

-- what two lists of effects make of a place is that of one after the other
pub held_both : (p : ℕ) (st : Shelf) (xs ys : List Effect) → shelf_by p st (xs ++ ys) ≡ shelf_by p (shelf_by p st xs) ys
held_both p st [] ys = refl
held_both p st (e ∷ xs) ys = held_both p (shelf_after p st e) xs ys

-- so are the steps of its shares
pub shares_both : (capacity p : ℕ) (st : Shelf) (xs ys : List Effect) → Steps capacity p st xs → Steps capacity p (shelf_by p st xs) ys
    → Steps capacity p st (xs ++ ys)
shares_both capacity p st [] ys one two = two
shares_both capacity p st (e ∷ xs) ys one two = (one.0, shares_both capacity p (shelf_after p st e) xs ys one.1 two)

-- one list of effects leads on from another
pub leads_on : (capacity p : ℕ) (st mid after : Shelf) (xs ys : List Effect) → Leads capacity p st xs mid → Leads capacity p mid ys after
    → Leads capacity p st (xs ++ ys) after
leads_on capacity p st mid after xs ys one two = record {
  held = held_both p st xs ys ∙ ap (λ h. shelf_by p h ys) one.held ∙ two.held;
  shares = shares_both capacity p st xs ys one.shares (subst (λ h. Steps capacity p h ys) (sym one.held) two.shares);
}

-- no effect leads nowhere
pub leads_nowhere : (capacity p : ℕ) (st : Shelf) → Leads capacity p st [] st
leads_nowhere capacity p st = record { held = refl; shares = tt }

-- one effect of another place, or of none
pub data IsAway (p : ℕ) : Effect → Type 0 where
  Signs_it : {bytes : List ℕ} → IsAway p (effects.Signed bytes)
  Tells_rel : {src : NodeId} {seq : ℕ} {payload : List ℕ} → IsAway p (effects.Delivered src seq payload)
  Tells_prio : {src : NodeId} {seq : ℕ} {payload : List ℕ} → IsAway p (effects.DeliveredPrio src seq payload)
  Tells_weight : {origin : NodeId} {edge : EdgeId} {seq weight : ℕ} → IsAway p (effects.WeightHeld origin edge seq weight)
  Ends_flow : {flow : Flow} → IsAway p (effects.Ended flow)
  Tells_krel : {src : NodeId} {seq : ℕ} {payload : List ℕ} → IsAway p (effects.DeliveredKrel src seq payload)
  Ends_kflow : {flow : Flow} → IsAway p (effects.Kended flow)
  Tells_version : {version : ℕ} → IsAway p (effects.Version version)
  Stores : {place id seq prio : ℕ} {src : NodeId} → (place ≡ p → ⊥) → IsAway p (effects.Stored place id src seq prio)
  Leaves : {place id : ℕ} {why : Why} → (place ≡ p → ⊥) → IsAway p (effects.Gone place id why)

-- all are of another place
abbrev pub AreAway : ℕ → List Effect → Type 0
AreAway p [] = Unit {0}
AreAway p (e ∷ es) = IsAway p e × AreAway p es

-- so are two lists
pub away_both : (p : ℕ) (xs ys : List Effect) → AreAway p xs → AreAway p ys → AreAway p (xs ++ ys)
away_both p [] ys one two = two
away_both p (e ∷ xs) ys one two = (one.0, away_both p xs ys one.1 two)

one_away : (capacity p : ℕ) (st : Shelf) (e : Effect) → IsAway p e → (shelf_after p st e ≡ st) × (FreshIf p st.top e × ShareIf capacity p st.held e)
one_away capacity p st (effects.Signed bytes) is = (refl, (tt, tt))
one_away capacity p st (effects.Delivered src seq payload) is = (refl, (tt, tt))
one_away capacity p st (effects.DeliveredPrio src seq payload) is = (refl, (tt, tt))
one_away capacity p st (effects.WeightHeld origin edge seq weight) is = (refl, (tt, tt))
one_away capacity p st (effects.Ended flow) is = (refl, (tt, tt))
one_away capacity p st (effects.DeliveredKrel src seq payload) is = (refl, (tt, tt))
one_away capacity p st (effects.Kended flow) is = (refl, (tt, tt))
one_away capacity p st (effects.Version version) is = (refl, (tt, tt))
one_away capacity p st (effects.Stored place id src seq prio) (Stores other) =
    let f : (place == p) ≡ false = ne_eqb place p other in (rw f refl, (λ same. absurd (other same), tt))
one_away capacity p st (effects.Gone place id whys.Evicted) (Leaves other) =
    let f : (place == p) ≡ false = ne_eqb place p other in (rw f refl, (λ same. absurd (other same), λ same. absurd (other same)))
one_away capacity p st (effects.Gone place id whys.Expired) (Leaves other) =
    let f : (place == p) ≡ false = ne_eqb place p other in (rw f refl, (λ same. absurd (other same), tt))
one_away capacity p st (effects.Gone place id whys.Acked) (Leaves other) =
    let f : (place == p) ≡ false = ne_eqb place p other in (rw f refl, (λ same. absurd (other same), tt))
one_away capacity p st (effects.Gone place id whys.Taken) (Leaves other) =
    let f : (place == p) ≡ false = ne_eqb place p other in (rw f refl, (λ same. absurd (other same), tt))
one_away capacity p st (effects.Gone place id whys.Withdrawn) (Leaves other) =
    let f : (place == p) ≡ false = ne_eqb place p other in (rw f refl, (λ same. absurd (other same), tt))

-- they leave the place as it is
pub leads_away : (capacity p : ℕ) (st : Shelf) (es : List Effect) → AreAway p es → Leads capacity p st es st
leads_away capacity p st [] away = leads_nowhere capacity p st
leads_away capacity p st (e ∷ es) away =
    let first = one_away capacity p st e away.0 in
    let rest = leads_away capacity p st es away.1 in
    record {
      held = ap (λ h. shelf_by p h es) first.0 ∙ rest.held;
      shares = (first.1, subst (λ h. Steps capacity p h es) (sym first.0) rest.shares);
    }
