-- What effects and the rows of weights say of each other, and what an update makes of them.
use Rattle.std.proofs.Common.{◌≡◌, ℕ, ◌*◌, ◌==◌, Bool, true, false, cond, List, [], ◌∷◌, ◌++◌, length, Option, Some, None, refl, sym, ap, subst, ◌∙◌, nat_lt}
use Rattle.std.specs.Prelude.{◌&&◌}
use Rattle.std.specs.Option.{option_and_then}
use Rattle.std.specs.List.{slice_get}
use Rattle.sp_base.specs.declared.id.NodeId.{NodeId}
use Rattle.sp_msg.specs.declared.body.Body.{Body}
use Rattle.sp_msg.specs.declared.body.Body.TheVariants as bodies
use Rattle.sp_msg.specs.declared.body.WeightBody.{WeightBody}
use Rattle.sp_msg.specs.declared.effect.Effect.{Effect}
use Rattle.sp_msg.specs.declared.kept.Kept.{Kept}
use Rattle.sp_rules.specs.Handle.{offer_of, offer_to, weight_effects}
use Rattle.sp_rules.specs.PrioPeer as rows
use Rattle.sp_rules.specs.Weights.{WeightState, held, held_in, offer, row_for, row_of, weight_of}
use Rattle.sp_rules.specs.declared.weights.Offer.TheVariants as offers
use Rattle.sp_rules.specs.declared.weights.TheConstants.{MAX_OWN_HEARD}
use Rattle.sp_topology.specs.declared.topology.Edge.{Edge}
use Rattle.laws_node.specs.HeldUpdates as lists
use Rattle.laws_node.proofs.LastWeights.{At, HasRows, IsUpdateAt, held_said, length_stays, said as row_said}
use Rattle.laws_runs.specs.Weights.{EachHeld}
use Rattle.laws_runs.proofs.WeightFacts.{NoUpdates, each_both, last_both, last_weight}

-- the rows after a step say the last weights that were told
pub record WTurns (P : WeightBody → Type 0) (old : WeightState) (es : List Effect) (new : WeightState) : Type 0 where
  pub edges : new.edges ≡ old.edges
  pub rows : HasRows new
  pub said : (edge : ℕ) (end : NodeId) (row : ℕ) → At old edge end.0 row → row_said new row ≡ last_weight edge end (row_said old row) es
  pub each : EachHeld P es

-- a row stands where it stood
pub at_later : (old new : WeightState) (edge end row : ℕ) → new.edges ≡ old.edges → At old edge end row → At new edge end row
at_later old new edge end row e at = record { joined = at.joined; there = ap (λ es. slice_get es edge) e ∙ at.there; placed = at.placed }

-- where no update is told and the rows stay, they say the last weights that were told
pub w_same : (P : WeightBody → Type 0) (old new : WeightState) (es : List Effect) → NoUpdates es → new.edges ≡ old.edges → new.rows ≡ old.rows → HasRows old
    → WTurns P old es new
w_same P old new es none e f h = record {
  edges = e;
  rows = record { rows = ap length f ∙ h.rows ∙ ap (λ (x : List Edge). 2 * length x) (sym e) };
  said = λ edge end row at. ap (λ r. weight_of (held_in r row)) f ∙ sym (none.last edge end (row_said old row));
  each = none.each P;
}

-- one step after another
pub w_on : (P : WeightBody → Type 0) (old mid new : WeightState) (xs ys : List Effect) → WTurns P old xs mid → WTurns P mid ys new → WTurns P old (xs ++ ys) new
w_on P old mid new xs ys one two = record {
  edges = two.edges ∙ one.edges;
  rows = two.rows;
  said =
      λ edge end row at. two.said edge end row (at_later old mid edge end.0 row one.edges at) ∙ ap (λ w. last_weight edge end w ys) (one.said edge end row at)
      ∙ sym (last_both edge end (row_said old row) xs ys);
  each = each_both P xs ys one.each two.each;
}

-- an update is held
pub held_turns : (P : WeightBody → Type 0) (s : WeightState) (o : Kept) → IsUpdateAt s o.body → ((u : WeightBody) → o.body ≡ bodies.Weight u → P u) → HasRows s
    → WTurns P s (weight_effects o.body) (held s o)
held_turns P s o at vouched h = record {
  edges = refl;
  rows = record { rows = length_stays s.rows o (row_for s.edges o.body) ∙ h.rows };
  said = λ edge end row here. held_said s o edge end.0 row h here at ∙ same edge end (row_said s row) o.body at.update at.is;
  each = subst (λ b. EachHeld P (weight_effects b)) (sym at.is) (vouched at.update at.is, tt);
}
  where
    same : (edge : ℕ) (end : NodeId) (w : ℕ) (body : Body) (u : WeightBody) → body ≡ bodies.Weight u
        → lists.last_weight edge end.0 w (record { body = body; signature = o.signature } ∷ []) ≡ last_weight edge end w (weight_effects body)
    same edge end w (bodies.Weight v) u e = refl
    same edge end w (bodies.Prio v) u e = absurd (cc)
    same edge end w (bodies.Rel v) u e = absurd (cc)
    same edge end w (bodies.Ack v) u e = absurd (cc)
    same edge end w (bodies.Krel v) u e = absurd (cc)
    same edge end w (bodies.Kack v) u e = absurd (cc)
    same edge end w (bodies.Epoch v) u e = absurd (cc)

-- what is new as an offer to a node is new to its rows
pub offered : (me : NodeId) (s : WeightState) (body : Body) → offer_to me s body ≡ offers.New → offer_of s body ≡ offers.New
offered me s (bodies.Weight u) e = go ((u.origin.0 == me.0) && nat_lt MAX_OWN_HEARD u.seq) e
  where
    go : (t : Bool) → cond t offers.Foreign (offer s u) ≡ offers.New → offer s u ≡ offers.New
    go true e = absurd (cc)
    go false e = e
offered me s (bodies.Prio u) e = absurd (cc)
offered me s (bodies.Rel u) e = absurd (cc)
offered me s (bodies.Ack u) e = absurd (cc)
offered me s (bodies.Krel u) e = absurd (cc)
offered me s (bodies.Kack u) e = absurd (cc)
offered me s (bodies.Epoch u) e = absurd (cc)

-- the row of an own update is there
pub own_at : (s : WeightState) (u : WeightBody) (row : ℕ) → row_for s.edges (bodies.Weight u) ≡ Some row → IsUpdateAt s (bodies.Weight u)
own_at s u row e = go (slice_get s.edges u.edge.0) refl e
  where
    go : (o : Option Edge) → slice_get s.edges u.edge.0 ≡ o → option_and_then (λ (f : Edge). row_of u.edge.0 f u.origin.0) o ≡ Some row
        → IsUpdateAt s (bodies.Weight u)
    go None there e = absurd (cc)
    go (Some f) there e = record { update = u; is = refl; edge = f; there = there; row = row; placed = e }
