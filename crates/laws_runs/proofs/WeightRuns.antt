-- The part on weights over a whole run: where nodes move, start and stop; and the laws that it gives.
use Rattle.std.proofs.Common.{◌≡◌, ℕ, ◌+◌, ◌*◌, ◌==◌, max, Bool, true, false, cond, List, [], ◌∷◌, ◌++◌, length, Some, None, refl, sym, ap, subst, ◌∙◌, inl}
use Rattle.std.proofs.Common.{inr, arith}
use Rattle.std.specs.Prelude.{IsTrue, slice_index_or}
use Rattle.std.specs.List.{flat_map, slice_get}
use Rattle.std.proofs.lemmas.Bool.{eq-eqb, ne_eqb}
use Rattle.std.proofs.lemmas.List.{append-nil}
use Rattle.sp_base.specs.declared.id.NodeId.{NodeId}
use Rattle.sp_msg.specs.Views.{signer_of}
use Rattle.sp_msg.specs.declared.body.Body.TheVariants as bodies
use Rattle.sp_msg.specs.declared.body.WeightBody.{WeightBody}
use Rattle.sp_msg.specs.declared.effect.Effect.{Effect}
use Rattle.sp_msg.specs.declared.kept.Kept.{Kept}
use Rattle.sp_rules.specs.Arts.{Arts}
use Rattle.sp_rules.specs.Node.{NodeState}
use Rattle.sp_rules.specs.Parts.{Fixed, Parts, nodes_of}
use Rattle.sp_rules.specs.Weights.{WeightState, minimum, row_of}
use Rattle.sp_rules.specs.declared.answers.Item.{Item}
use Rattle.laws_node.specs.Asked.{NewKeep}
use Rattle.laws_node.specs.Shapes.{Shape}
use Rattle.laws_node.proofs.LastWeights.{At, HasRows, said as row_said}
use Rattle.laws_node.proofs.UpdateRows.{ends_differ, nothing_held}
use Rattle.sp_runs.specs.Forgery.{forged_document, forged_object, has_forged_tag, is_among}
use Rattle.sp_runs.specs.Inputs.{acting}
use Rattle.sp_runs.specs.Lives.{ready}
use Rattle.sp_runs.specs.Runs.{Clean, InRange, Lives, Move, Moves, Starts, Stays, Turn, Turned, forged_in}
use Rattle.sp_runs.specs.Settings.{Setting, SettingFits, is_correct, node_at_boot}
use Rattle.sp_runs.specs.Told.{effects_at, signed, signed_by, told_at}
use Rattle.sp_runs.specs.Worlds.{World, at_start, node_in}
use Rattle.sp_journal.specs.declared.entry.Entry.{Entry as JournalEntry}
use Rattle.sp_schedule_events.specs.declared.event.Event.{Event}
use Rattle.sp_topology.specs.declared.topology.Edge.{Edge}
use Rattle.laws_runs.specs.KeyFiles.{KeysStand}
use Rattle.laws_runs.specs.LifeWeights.{LifeWeightClaims, LifeWeightsAreKept, TurnsKeepWeights, WeightPart}
use Rattle.laws_runs.specs.Premises.{Carries}
use Rattle.laws_runs.specs.Signs.{Good, Known, NodeIs, Signs}
use Rattle.laws_runs.specs.Since.{effects_since}
use Rattle.laws_runs.specs.Weights.{EachHeld, IsSaid, WeightsAreKept}
use Rattle.laws_runs.proofs.Goods.{new_known, own_known, plain_start, started, unforged_both}
use Rattle.laws_runs.proofs.KeyFiles.{key_files_stand}
use Rattle.laws_runs.proofs.LifeCases.{life_case}
use Rattle.laws_runs.proofs.Lists.{among_left, as_they_are, told_more}
use Rattle.laws_runs.proofs.Lives.{step_stays}
use Rattle.laws_runs.proofs.Reaches.{input_fits}
use Rattle.laws_runs.proofs.Ready.{readied_parts, was_there}
use Rattle.laws_runs.proofs.Rests.{Begun, Lived, Ran, Rest, life_rest, spends_rest}
use Rattle.laws_runs.proofs.Signed.{signs, signs_ready}
use Rattle.laws_runs.proofs.SinceFacts.{all_more, moved_all, moved_since, since_is_all, since_more, since_start}
use Rattle.laws_runs.proofs.Tables.{node_is, node_put, same_node}
use Rattle.laws_runs.proofs.WeightFacts.{NoUpdates, each_both, each_less, last_both, last_weight, no_either, no_none, no_signed}
use Rattle.laws_runs.proofs.WeightSteps.{turned}
use Rattle.laws_runs.proofs.WeightTurns.{WTurns}

-- ---- the rows of a node

rows_of : (x : Setting) (P : Kept → Type 0) (u : NodeId) (n : NodeState) → NodeIs x P u n → HasRows n.parts.weights
rows_of x P u n is = record {
  rows = ap (λ (s : Shape). s.weights.rows) is.shape ∙ ap (λ (es : List Edge). 2 * length es) (sym (ap (λ (s : Shape). s.weights.edges) is.shape));
}

edges_of : (x : Setting) (P : Kept → Type 0) (u : NodeId) (n : NodeState) → NodeIs x P u n → n.parts.weights.edges ≡ x.topology.edges
edges_of x P u n is = ap (λ (s : Shape). s.weights.edges) is.shape

-- the row of an end of an edge of the topology is there
row_at : (x : Setting) (P : Kept → Type 0) (u : NodeId) (n : NodeState) → NodeIs x P u n → (edge : ℕ) (e : Edge) (end row : ℕ)
    → slice_get x.topology.edges edge ≡ Some e → row_of edge e end ≡ Some row → At n.parts.weights edge end row
row_at x P u n is edge e end row there placed =
    record { joined = e; there = ap (λ (es : List Edge). slice_get es edge) (edges_of x P u n is) ∙ there; placed = placed }

-- a node that boots holds nothing
none_at_boot : (x : Setting) (u : NodeId) (row : ℕ) → row_said (node_at_boot x u).parts.weights row ≡ 0
none_at_boot x u row = nothing_held (2 * length x.topology.edges) row

-- ---- what was said

said_more : (arts : Arts) (x : Setting) (es : List Event) (js : List JournalEntry) (e : Event) (j : JournalEntry) → length es ≡ length js → (u : WeightBody)
    → IsSaid arts x es js u → IsSaid arts x (es ++ e ∷ []) (js ++ j ∷ []) u
said_more arts x es js e j same u h = λ correct.
    subst (λ these. is_among (arts.spell (bodies.Weight u)) these ≡ true) (sym (told_more (told_at u.origin signed_by) es js e j same))
    (among_left (arts.spell (bodies.Weight u)) (signed es js u.origin) _ (h correct))

known_weights : (arts : Arts) (x : Setting) (es : List Event) (js : List JournalEntry) (Q : WeightBody → Type 0)
    → ((u : WeightBody) → IsSaid arts x es js u → Q u) → (answered : List (Kept × Item)) → NewKeep (Known arts x es js) answered
    → NewKeep (λ o. (u : WeightBody) → o.body ≡ bodies.Weight u → Q u) answered
known_weights arts x es js Q less [] h = tt
known_weights arts x es js Q less (a ∷ others) h = (
  λ new u is. less u (λ correct.
      let signer : signer_of a.0.body ≡ u.origin = ap signer_of is in
      let among : is_among (arts.spell a.0.body) (signed es js (signer_of a.0.body)) ≡ true =
      h.0 new (subst (λ v. IsTrue (is_correct x v)) (sym signer) correct) in
      subst (λ b. is_among (arts.spell b) (signed es js u.origin) ≡ true) is
      (subst (λ v. is_among (arts.spell a.0.body) (signed es js v) ≡ true) signer among)),
  known_weights arts x es js Q less others h.1,
)

-- ---- one turn

-- the world in which a node acts
weights_ready : (arts : Arts) (x : Setting) (es : List Event) (js : List JournalEntry) (w : World) (e : Event) → WeightPart arts x es js w
    → WeightPart arts x es js (ready x w e)
weights_ready arts x es js w e h = record {
  last = λ u n edge joined end row at there placed.
      let was = was_there x w e u n at in
      ap (λ (p : Parts). row_said p.weights row) (readied_parts x w was.before n was.readied).0
      ∙ h.last u was.before edge joined end row was.is_there there placed;
  said = h.said;
}

module _ (arts : Arts) (x : Setting) (es : List Event) (js : List JournalEntry) (e : Event) (j : JournalEntry) (same : length es ≡ length js) where
  abbrev es2 : List Event
  es2 = es ++ e ∷ []

  abbrev js2 : List JournalEntry
  js2 = js ++ j ∷ []

  -- what this is said of by then
  abbrev Said : WeightBody → Type 0
  Said = IsSaid arts x (es ++ e ∷ []) (js ++ j ∷ [])

  still_said : (w : World) → WeightPart arts x es js w → (u : NodeId) → EachHeld Said (effects_at es js u)
  still_said w h u = each_less (IsSaid arts x es js) Said (said_more arts x es js e j same) (effects_at es js u) (h.said u)

  moved_on : (w new : World) (m : Move arts x w e j new) → m.after.fixed.me ≡ acting e
      → ((edge : ℕ) (joined : Edge) (end row : ℕ) → slice_get x.topology.edges edge ≡ Some joined → row_of edge joined end ≡ Some row
      → At m.node.parts.weights edge end row)
      → WeightPart arts x es js w → WTurns Said m.node.parts.weights m.output.effects m.after.parts.weights → WeightPart arts x es2 js2 new
  moved_on w new m me rows h turns = record {
    last = λ u n edge joined end row at there placed.
        elim (node_put u a m.after n w.nodes me (subst (λ (y : World). node_in y.nodes u ≡ Some n) m.world at)) [
          | inl it ↦
              subst (λ v. row_said n.parts.weights row ≡ last_weight edge end 0 (effects_since es2 js2 v)) (sym it.0)
              (subst (λ (y : NodeState). row_said y.parts.weights row ≡ last_weight edge end 0 (effects_since es2 js2 a)) (sym it.1)
              (now edge joined end row there placed))
          | inr away ↦
              h.last u n edge joined end row away.1 there placed
              ∙ ap (last_weight edge end 0) (sym (other_since u (ne_eqb a.0 u.0 (λ y. away.0 (sym (same_node a u y))))))
        ];
    said = λ u. subst (EachHeld Said) (sym (moved_all arts x es js w new e j m same u))
        (each_both Said (effects_at es js u) (cond (a.0 == u.0) m.output.effects []) (still_said w h u) (either_each (a.0 == u.0)));
  }
    where
      a : NodeId
      a = acting e

      own_since : effects_since es2 js2 a ≡ effects_since es js a ++ m.output.effects
      own_since = moved_since arts x es js w new e j m same a ∙ (let t : (a.0 == a.0) ≡ true = eq-eqb a.0 a.0 refl in rw t refl)

      other_since : (u : NodeId) → (a.0 == u.0) ≡ false → effects_since es2 js2 u ≡ effects_since es js u
      other_since u f = moved_since arts x es js w new e j m same u ∙ rw f (append-nil (effects_since es js u))

      now : (edge : ℕ) (joined : Edge) (end : NodeId) (row : ℕ) → slice_get x.topology.edges edge ≡ Some joined → row_of edge joined end.0 ≡ Some row
          → row_said m.after.parts.weights row ≡ last_weight edge end 0 (effects_since es2 js2 a)
      now edge joined end row there placed =
          turns.said edge end row (rows edge joined end.0 row there placed)
          ∙ ap (λ n. last_weight edge end n m.output.effects) (h.last a m.node edge joined end row m.is_there there placed)
          ∙ sym (last_both edge end 0 (effects_since es js a) m.output.effects) ∙ ap (last_weight edge end 0) (sym own_since)

      either_each : (t : Bool) → EachHeld Said (cond t m.output.effects [])
      either_each true = turns.each
      either_each false = tt

  rested_on : (w new : World) → Rest x w e j new → WeightPart arts x es js w → WeightPart arts x es2 js2 new
  rested_on w new rest h = record {
    last = λ u n edge joined end row at there placed. lived u n edge joined end row there placed (rest.nodes u n at);
    said = λ u. subst (EachHeld Said) (sym (all_more es js e j same u))
        (each_both Said (effects_at es js u) (told_at u (λ y. y ∷ []) (e, j)) (still_said w h u) ((quiet u).each Said));
  }
    where
      nothing : NoUpdates j.effects
      nothing = elim rest.tells [
        | inl none ↦ rw none no_none
        | inr one ↦ rw one.1 (no_signed one.0 [] no_none)
      ]

      quiet : (u : NodeId) → NoUpdates (told_at u (λ y. y ∷ []) (e, j))
      quiet u = no_either ((acting e).0 == u.0) (flat_map (λ y. y ∷ []) j.effects) (rw (as_they_are j.effects) nothing)

      lived : (u : NodeId) (n : NodeState) (edge : ℕ) (joined : Edge) (end : NodeId) (row : ℕ) → slice_get x.topology.edges edge ≡ Some joined
          → row_of edge joined end.0 ≡ Some row → Lived x w e u n → row_said n.parts.weights row ≡ last_weight edge end 0 (effects_since es2 js2 u)
      lived u n edge joined end row there placed (Ran later was) =
          ap (λ (p : Parts). row_said p.weights row) (readied_parts x w was.before n was.readied).0
          ∙ h.last u was.before edge joined end row was.is_there there placed
          ∙ sym (ap (last_weight edge end 0) (since_more es js e j same u later)
          ∙ last_both edge end 0 (effects_since es js u) (told_at u (λ y. y ∷ []) (e, j))
          ∙ (quiet u).last edge end (last_weight edge end 0 (effects_since es js u)))
      lived u n edge joined end row there placed (Begun begins weights places) =
          ap (λ (s : WeightState). row_said s row) weights ∙ none_at_boot x u row ∙ sym (ap (last_weight edge end 0) (since_start es js e j same u begins))

weights_on : (arts : Arts) (x : Setting) (es : List Event) (js : List JournalEntry) (old : World) (e : Event) (j : JournalEntry) (new : World)
    → SettingFits arts x → Carries x.topology.format arts
    → KeysStand x es old → Signs arts x es js old → InRange x es e → (turn : Turn arts x old e j new) → forged_in arts x es js old e j new turn ≡ None
    → WeightPart arts x es js old → WeightPart arts x (es ++ e ∷ []) (js ++ j ∷ []) new
weights_on arts x es js old e j new fits reads keys signs range (Moves m) unforged h =
    let w = ready x old e in
    let there = signs_ready arts x es js old e keys signs in
    let same = signs.entries in
    let is = there.nodes (acting e) m.node m.is_there in
    let nothing =
    unforged_both (has_forged_tag arts x w m.node m.input) (forged_object arts x es js m.output.answered) (forged_document arts es m.output.adopted)
    unforged in
    let before : m.node.fixed.me ≡ acting e = node_is w.nodes (acting e) m.node m.is_there in
    let me : m.after.fixed.me ≡ acting e = ap (λ (f : Fixed). f.me) (step_stays arts m.node m.input m.output m.after m.step).fixed ∙ before in
    let P = Good arts x es js in
    let Q = IsSaid arts x (es ++ e ∷ []) (js ++ j ∷ []) in
    moved_on arts x es js e j same w new m me (λ edge joined end row. row_at x P (acting e) m.node is edge joined end row)
    (weights_ready arts x es js old e h)
    (turned x arts P Q (acting e) m.node m.input m.output m.after m.step
    (input_fits arts x es w m.node e m.input fits reads there.bytes range.fields m.reaches) is
    (known_weights arts x es js Q (said_more arts x es js e j same) m.output.answered (new_known arts x es js m.output.answered nothing.1))
    (λ index u own correct. own_known arts x es js w new e j m same before index (bodies.Weight u) own) (rows_of x P (acting e) m.node is))
weights_on arts x es js old e j new fits reads keys signs range (Stays spends) unforged h =
    rested_on arts x es js e j signs.entries old new (spends_rest x old e j new spends) h
weights_on arts x es js old e j new fits reads keys signs range (Lives on life) unforged h =
    rested_on arts x es js e j signs.entries old new (life_rest arts x es old e j new on keys range (life_case arts x old e j new life)) h

-- ---- a whole run

weights_begin : (arts : Arts) (x : Setting) → WeightPart arts x [] [] (at_start x)
weights_begin arts x = record {
  last = λ u n edge joined end row at there placed.
      ap (λ (y : NodeState). row_said y.parts.weights row) (started x (nodes_of x.topology) u n (plain_start x u n at).1).0 ∙ none_at_boot x u row;
  said = λ u. tt;
}

weights_hold : (arts : Arts) (x : Setting) (es : List Event) (js : List JournalEntry) (w : World) → SettingFits arts x → Carries x.topology.format arts
    → Clean arts x es js w → WeightPart arts x es js w
weights_hold arts x es js w fits reads Starts = weights_begin arts x
weights_hold arts x es js w fits reads (Turned {es = es'} {js = js'} {old = old} {e = e} {j = j} run range turn unforged) =
    weights_on arts x es' js' old e j w fits reads (key_files_stand arts x es' js' old fits run) (signs arts x es' js' old fits reads run) range turn unforged
    (weights_hold arts x es' js' old fits reads run)

-- ---- the laws

claims_of : (arts : Arts) (x : Setting) (es : List Event) (js : List JournalEntry) (w : World) → SettingFits arts x → Signs arts x es js w
    → WeightPart arts x es js w → LifeWeightClaims arts x es js w
claims_of arts x es js w fits signs h = record {
  effective_is = λ u n edge e at there.
      let s = n.parts.weights in
      let here : slice_get s.edges edge ≡ Some e =
      ap (λ (es : List Edge). slice_get es edge) (edges_of x (Good arts x es js) u n (signs.nodes u n at)) ∙ there in
      let differ = ends_differ x.topology.format _ (0, 0) x.topology.edges edge e fits.topology.ranges.graph.are_edges there in
      let low_is : row_of edge e e.low.0 ≡ Some (2 * edge) = let t : (e.low.0 == e.low.0) ≡ true = eq-eqb e.low.0 e.low.0 refl in rw t refl in
      let high_is : row_of edge e e.high.0 ≡ Some (2 * edge + 1) =
      let f : (e.low.0 == e.high.0) ≡ false = ne_eqb e.low.0 e.high.0 (λ same. omega (arith, same, differ)) in
      let t : (e.high.0 == e.high.0) ≡ true = eq-eqb e.high.0 e.high.0 refl in
      rw (f, t) refl in
      let low = h.last u n edge e e.low (2 * edge) at there low_is in
      let high = h.last u n edge e e.high (2 * edge + 1) at there high_is in
      let least : minimum s edge ≡ slice_index_or n.live.weights edge 0 =
      ap (λ (ws : List ℕ). slice_index_or ws edge 0) (signs.nodes u n at).obeys.least in
      let bound = slice_index_or n.live.weights edge 0 in
      ap (λ a. max a (max (row_said s (2 * edge)) (row_said s (2 * edge + 1)))) least
      ∙ ap (λ b. max bound (max b (row_said s (2 * edge + 1)))) low
      ∙ ap (λ c. max bound (max (last_weight edge e.low 0 (effects_since es js u)) c)) high;
  said = h.said;
}

pub turns_keep_weights : TurnsKeepWeights
turns_keep_weights = record { turn = weights_on; claims = claims_of }

pub weights_are_kept_over_lives : LifeWeightsAreKept
weights_are_kept_over_lives arts x es js w fits reads run =
    claims_of arts x es js w fits (signs arts x es js w fits reads run) (weights_hold arts x es js w fits reads run)

-- without epochs no life ends
pub weights_are_kept : WeightsAreKept
weights_are_kept arts x es js w fits reads run =
    let claims = weights_are_kept_over_lives arts x es js w fits.fits reads run in
    record {
      effective_is = λ u n edge e at there.
          claims.effective_is u n edge e at there
          ∙ ap (λ (es : List Effect). max (slice_index_or n.live.weights edge 0) (max (last_weight edge e.low 0 es) (last_weight edge e.high 0 es)))
          (since_is_all arts x es js w fits.plain run u);
      said = claims.said;
    }
