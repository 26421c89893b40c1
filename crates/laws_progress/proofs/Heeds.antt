-- What a node has when it heard a frame.
use Rattle.laws_node.proofs.FreshLemmas.{one}
use Rattle.laws_node.proofs.Tables.{all_drop_first, cond_either}
use Rattle.sp_base.specs.Formats.{max_rels}
use Rattle.sp_base.specs.declared.limits.TheConstants.{MAX_MESSAGES}
use Rattle.sp_rules.specs.Rel.{messages_after, next_flow, RelState, flow_in, is_from, is_to, slot_of, view_in, peer_in, slot_for}
use Rattle.sp_runs.specs.Lives.{ready}
use Rattle.sp_runs.specs.Told.{signed}
use Rattle.std.proofs.Common.{drop, ◌≡◌, ◌≤◌, ℕ, ◌+◌, ◌-◌, ◌==◌, Bool, true, false, min, max, List, [], ◌∷◌, length, map, Option, Some, None, Ok, refl, sym, ap}
use Rattle.std.proofs.Common.{subst, ◌∙◌, inl, inr, IfSome, All, option_map, cond, nat_lt}
use Rattle.std.proofs.lemmas.List.Elements.{All-take, All-nil, All-head, All-tail}
use Rattle.sp_rules.proofs.FlowJudged.{found_ends}
use Rattle.sp_msg.specs.declared.body.Body.{Body}
use Rattle.sp_rules.specs.Lives.{held_boot, are_held, is_dated}
use Rattle.sp_journal.specs.declared.entry.Entry.{Entry}
use Rattle.std.specs.Prelude.{slice_get, ◌&&◌}
use Rattle.std.proofs.lemmas.Bool.{eq-eqb, ne_eqb, cases_Bool}
use Rattle.sp_base.specs.declared.id.Flow.{Flow}
use Rattle.sp_base.specs.declared.id.NodeId.{NodeId}
use Rattle.sp_frame.specs.Reliable.{Report}
use Rattle.sp_frame.specs.Sections.{Contents}
use Rattle.sp_frame.specs.Views.{as_list}
use Rattle.sp_msg.specs.declared.kept.Kept.{Kept}
use Rattle.sp_rules.specs.Arts.{Arts}
use Rattle.sp_rules.specs.Flow.{FlowState, ends, is_flow}
use Rattle.sp_rules.specs.Parts.{Fixed, is_signed, nodes_of, Parts}
use Rattle.sp_rules.specs.Pieces.{AckPiece, RelPiece, slot_pieces, pieces_of}
use Rattle.sp_rules.specs.Polls.{dated}
use Rattle.sp_rules.specs.declared.lives.Life.{Life}
use Rattle.sp_rules.specs.declared.kflow.FlowKind.TheVariants.{Plain}
use Rattle.laws_node.proofs.Carried.{AllKeep}
use Rattle.laws_runs.specs.Signs.{Good, Signs}
use Rattle.laws_runs.proofs.Lists.{both}
use Rattle.laws_runs.proofs.Signed.{signs}
use Rattle.laws_runs.proofs.Tables.{same_node}
use Rattle.sp_runs.specs.Settings.{Setting, fixed_at}
use Rattle.sp_runs.specs.Worlds.{frames_in, World}
use Rattle.sp_schedule_events.specs.declared.event.Event.{Event}
use Rattle.laws_progress.proofs.Hops.{Told}
use Rattle.laws_runs.specs.Dated.{AreDated, FlowDated, NamesHeld}
use Rattle.sp_msg.specs.declared.body.Body.TheVariants as bodies
use Rattle.laws_progress.proofs.States.{Era, IsRight}
use Rattle.laws_runs.proofs.Goods.{of_all}
use Rattle.laws_progress.proofs.Heeded.{AreNodes, Ready}
use Rattle.laws_progress.proofs.Makes.{SlotAck, SlotRel}
use Rattle.laws_progress.proofs.SlotHeeds.{slot_heeded}
use Rattle.laws_progress.proofs.SlotParts.{ack_keeps, keep_right, rel_keeps, slot_keeps}
use Rattle.laws_progress.proofs.Slots.{after_slot}
use Rattle.laws_progress.proofs.Wires.{is_mine, told_slot, is_slot}
use Rattle.sp_rules.specs.declared.kflow.FlowKind.{FlowKind}
use Rattle.sp_rules.specs.declared.kflow.FlowKind.TheVariants.{Paths}
use Rattle.sp_rules.specs.Kflow.{goes_over}
use Rattle.laws_progress.proofs.Makes.{over_list, sent_over}
use Rattle.sp_rules.specs.Parts.{flows_of}
use Rattle.std.proofs.lemmas.List.Elements.{All-cons}
use Rattle.laws_progress.proofs.EitherKind.{slot_of_kind}

-- the numbers of a frame that is fit, at the node's part
pub record Fit (flow : Flow) (bound : ℕ) (r : RelState) (f : Told) : Type 0 where
  pub window : f.have ≤ f.base + bound
  pub no_ack : f.ack ≡ false → f.base ≤ (flow_in r.flows flow).at.base
  pub next_there : f.next ≤ f.have
  pub next_near : f.next ≤ max (flow_in r.flows flow).at.have f.base + 1
  pub at_source : is_from r flow ≡ true → f.have ≤ (flow_in r.flows flow).at.have
  pub low : is_from r flow ≡ true → f.base ≤ (flow_in r.flows flow).at.have
  pub at_end : is_to r flow ≡ true → f.base ≤ (flow_in r.flows flow).at.base

pub record HeededOf (flow : Flow) (bound : ℕ) (r z : RelState) (f : Told) : Type 0 where
  pub base : f.base ≤ (flow_in z.flows flow).at.base
  pub have : is_to r flow ≡ false → f.next ≤ (flow_in z.flows flow).at.have
  pub have_at_end : is_to r flow ≡ true
      → min f.next ((flow_in r.flows flow).at.have - length (flow_in r.flows flow).inbox + bound) ≤ (flow_in z.flows flow).at.have

pub heeded_of : (kind : FlowKind) (edge : ℕ) (arts : Arts) (fx : Fixed) (ls : List Life) (over : Body → Bool) (nodes : List NodeId) (bound : ℕ) (v u : NodeId)
    (era : Era) (flow : Flow)
    (r : RelState) (slot : Option Report) → ((m : Body) → goes_over edge m ≡ true → over m ≡ true) → Ready nodes bound v flow r → AreNodes nodes flow
    → ((t : Report) → slot ≡ Some t → is_mine flow t.flow ≡ true → (t.flow ≡ flow) × SlotAck kind flow t.base t.ack × SlotRel kind flow edge t.rels)
    → ((t : Report) → slot ≡ Some t
    → ((o : Kept) → t.ack ≡ Some o → is_signed arts fx o ≡ true) × ((o : Kept) (os : List Kept) → t.rels ≡ o ∷ os → is_signed arts fx o ≡ true))
    → ((t : Report) → slot ≡ Some t → is_slot era flow t ≡ true
    → ((o : Kept) → t.ack ≡ Some o → is_dated ls o.body ≡ true) × ((o : Kept) (os : List Kept) → t.rels ≡ o ∷ os → is_dated ls o.body ≡ true))
    → (told_slot era flow true slot).mine ≡ true → Fit flow bound r (told_slot era flow true slot)
    → HeededOf flow bound r (after_slot arts fx ls over r u slot) (told_slot era flow true slot)
heeded_of kind edge arts fx ls over nodes bound v u era flow r None comes ready are parts signed dated mine fit = absurd (let f : false ≡ true = mine in cc)
heeded_of kind edge arts fx ls over nodes bound v u era flow r (Some t) comes ready are parts signed dated mine fit =
    let own : is_mine flow t.flow ≡ true = (both (is_mine flow t.flow) ((t.sboot == era.sboot) && (t.dboot == era.dboot)) mine).0 in
    let p = parts t refl own in
    let s = signed t refl in
    let b = dated t refl mine in
    let h = slot_heeded kind edge arts fx ls over nodes bound v u flow r t ready are (record {
      flow_is = p.0;
      ack = p.1;
      rels = p.2;
      comes = comes;
      signed_ack = s.0;
      signed_rel = s.1;
      dated_ack = b.0;
      dated_rel = b.1;
      window = fit.window;
      no_ack = fit.no_ack;
      next_there = fit.next_there;
      next_near = fit.next_near;
      at_source = fit.at_source;
      low = fit.low;
      at_end = fit.at_end;
    }) in
    record { base = h.base; have = h.have; have_at_end = h.have_at_end }

pub are_nodes : (x : Setting) (flow : Flow) → IsRight x flow → AreNodes (nodes_of x.topology) flow
are_nodes x flow right = record {
  src = (both _ _ right.from).0;
  dst = (both _ _ right.to).0;
  different = ne_eqb _ _ (λ z. right.different (same_node flow.src flow.dst z));
}

-- the objects of a frame are signed
pub signed_in : (kind : FlowKind) (arts : Arts) (x : Setting) (es : List Event) (js : List Entry) (w : World) → Signs arts x es js w
    → (u v : NodeId) (k : ℕ) (bytes : List ℕ) (s : Contents) (fx : Fixed) (boot : ℕ) → fx ≡ fixed_at x v boot
    → slice_get (frames_in w.directions u v) k ≡ Some (Some bytes) → arts.sections x.signature_len bytes ≡ Ok s
    → (t : Report) → slot_of_kind kind s ≡ Some t
    → ((o : Kept) → t.ack ≡ Some o → is_signed arts fx o ≡ true) × ((o : Kept) (os : List Kept) → t.rels ≡ o ∷ os → is_signed arts fx o ≡ true)
signed_in kind arts x es js w signs u v k bytes s fx boot is there read t slot =
    let P = Good arts x es js in
    let all_keep = of_all P (pieces_of s) (signs.frames u v k bytes s there read) in
    let kept_slot = subst (λ z. AllKeep P (slot_pieces kind z)) slot (slot_keeps kind P s all_keep) in
    let one : (o : Kept) → P o → is_signed arts fx o ≡ true = λ o g. ap (λ (f : Fixed). is_signed arts f o) is ∙ g.right in (
      λ o e. one o (ack_keeps kind P t.flow t.ack (map (RelPiece kind t.flow) t.rels) kept_slot.1 o e),
      λ o os e. one o (rel_keeps kind P t.flow t.rels
          (keep_right P (map (AckPiece kind t.flow) (as_list t.ack)) (map (RelPiece kind t.flow) t.rels) kept_slot.1) o os e),
    )

-- it names the flow's ends and these boots
abbrev pub NamesBoots : Flow → ℕ → ℕ → Body → Type 0
NamesBoots flow a b (bodies.Rel r) = ((r.src ≡ flow.src) × (r.dst ≡ flow.dst)) × ((r.sboot ≡ a) × (r.dboot ≡ b))
NamesBoots flow a b (bodies.Ack r) = ((r.src ≡ flow.src) × (r.dst ≡ flow.dst)) × ((r.sboot ≡ a) × (r.dboot ≡ b))
NamesBoots flow a b (bodies.Krel r) = ((r.src ≡ flow.src) × (r.dst ≡ flow.dst)) × ((r.sboot ≡ a) × (r.dboot ≡ b))
NamesBoots flow a b (bodies.Kack r) = ((r.src ≡ flow.src) × (r.dst ≡ flow.dst)) × ((r.sboot ≡ a) × (r.dboot ≡ b))
NamesBoots flow a b _ = ⊥

boots_held : (ls : List Life) (src dst : NodeId) (sboot dboot : ℕ) (flow : Flow) (a b : ℕ) → held_boot ls flow.src ≡ a → held_boot ls flow.dst ≡ b
    → ((src ≡ flow.src) × (dst ≡ flow.dst)) × ((sboot ≡ a) × (dboot ≡ b)) → are_held ls (record { src = src; dst = dst }) sboot dboot ≡ true
boots_held ls src dst sboot dboot flow a b one two names =
    let s : (sboot == held_boot ls src) ≡ true = eq-eqb _ _ (names.1.0 ∙ sym one ∙ ap (held_boot ls) (sym names.0.0)) in
    let d : (dboot == held_boot ls dst) ≡ true = eq-eqb _ _ (names.1.1 ∙ sym two ∙ ap (held_boot ls) (sym names.0.1)) in
    rw s d

-- what a node keeps of a flow names the boots that it holds
kept_names : (ls : List Life) (flow : Flow) (a b : ℕ) (body : Body) → held_boot ls flow.src ≡ a → held_boot ls flow.dst ≡ b → NamesHeld ls flow body
    → NamesBoots flow a b body
kept_names ls flow a b (bodies.Rel r) one two h = ((h.from, h.to), (h.source ∙ one, h.end ∙ two))
kept_names ls flow a b (bodies.Ack r) one two h = ((h.from, h.to), (h.source ∙ one, h.end ∙ two))
kept_names ls flow a b (bodies.Krel r) one two h = ((h.from, h.to), (h.source ∙ one, h.end ∙ two))
kept_names ls flow a b (bodies.Kack r) one two h = ((h.from, h.to), (h.source ∙ one, h.end ∙ two))
kept_names ls flow a b (bodies.Prio r) one two h = absurd h
kept_names ls flow a b (bodies.Weight r) one two h = absurd h
kept_names ls flow a b (bodies.Epoch r) one two h = absurd h

-- so does what is kept of each flow
pub flow_dated : (ls : List Life) (flow : Flow) (fs : List FlowState) → All (FlowDated ls) fs → FlowDated ls (flow_in fs flow)
flow_dated ls flow [] all = record { messages = All-nil (λ (o : Kept). NamesHeld ls flow o.body); ack = tt }
flow_dated ls flow (f ∷ fs) all = elim (cases_Bool (is_flow flow f)) [
  | inl t ↦ rw t (All-head (FlowDated ls) f fs all)
  | inr t ↦ rw t (flow_dated ls flow fs (All-tail (FlowDated ls) f fs all))
]

of_slot_ack : (t : Bool) (a : Option Kept) (P : Kept → Type 0) → IfSome a P → (o : Kept) → cond t a None ≡ Some o → P o
of_slot_ack true None P names o e = absurd (let f : None ≡ Some o = e in cc)
of_slot_ack true (Some b) P names o e = let same : b ≡ o = cc in subst P same names
of_slot_ack false a P names o e = absurd (let f : None ≡ Some o = e in cc)

of_slot_list : (ls : List Life) (r : RelState) (v : NodeId) (fl : Flow) → FlowDated ls (flow_in r.flows fl)
    → All (λ (o : Kept). NamesHeld ls (ends (flow_in r.flows fl)) o.body) (slot_of r v fl).rels
of_slot_list ls r v fl h =
    let f = flow_in r.flows fl in
    let w = view_in (peer_in r.peers v).views fl in
    let P : Kept → Type 0 = λ o. NamesHeld ls (ends f) o.body in
    let after = max w.have f.at.base in
    cond_either (All P) (is_to r fl) [] (messages_after f.at after) (All-nil P)
    (All-take P MAX_MESSAGES (drop (after - f.at.base) f.at.list) (all_drop_first P (after - f.at.base) f.at.list h.messages))

-- and of those that go over an edge
of_over : (kind : FlowKind) (edge : ℕ) (P : Kept → Type 0) (os : List Kept) → All P os → All P (over_list kind edge os)
of_over Plain edge P os h = h
of_over Paths edge P [] h = All-nil P
of_over Paths edge P (o ∷ os) h = cond_either (All P) (goes_over edge o.body) (o ∷ []) [] (All-cons P o [] (All-head P o os h) (All-nil P)) (All-nil P)

-- so do the objects of its slot
pub slot_names : (kind : FlowKind) (edge : ℕ) (p : Parts) (v : NodeId) (format : ℕ) (flow : Flow) (a b : ℕ) (t : Report) → AreDated p
    → held_boot p.lives flow.src ≡ a → held_boot p.lives flow.dst ≡ b
    → option_map (dated format p.lives) (option_map (sent_over kind edge) (slot_for (flows_of kind p) v)) ≡ Some t → t.flow ≡ flow
    → ((o : Kept) → t.ack ≡ Some o → NamesBoots flow a b o.body) × ((o : Kept) (os : List Kept) → t.rels ≡ o ∷ os → NamesBoots flow a b o.body)
slot_names kind edge p v format flow a b t h one two is its = go (next_flow r v) is
  where
    r : RelState
    r = flows_of kind p

    go : (o : Option Flow) → option_map (dated format p.lives) (option_map (sent_over kind edge) (option_map (slot_of r v) o)) ≡ Some t
        → ((o : Kept) → t.ack ≡ Some o → NamesBoots flow a b o.body) × ((o : Kept) (os : List Kept) → t.rels ≡ o ∷ os → NamesBoots flow a b o.body)
    go None e = absurd (let f : None ≡ Some t = e in cc)
    go (Some fl) e =
        let f : Some (dated format p.lives (sent_over kind edge (slot_of r v fl))) ≡ Some t = e in
        let same : dated format p.lives (sent_over kind edge (slot_of r v fl)) ≡ t = cc in
        let fl_is : fl ≡ flow = ap (λ (z : Report). z.flow) same ∙ its in
        let row = flow_in r.flows fl in
        let kept : FlowDated p.lives row × (ends row ≡ fl) = (flow_dated p.lives fl r.flows (h kind), found_ends r.flows fl) in
        let P : Kept → Type 0 = λ o. NamesHeld p.lives (ends row) o.body in
        let named : (o : Kept) → NamesHeld p.lives (ends row) o.body → NamesBoots flow a b o.body =
        λ o names. kept_names p.lives flow a b o.body one two (subst (λ g. NamesHeld p.lives g o.body) (kept.1 ∙ fl_is) names) in
        let of_list = of_over kind edge P (slot_of r v fl).rels (of_slot_list p.lives r v fl kept.0) in (
          λ o ack. named o
              (of_slot_ack (nat_lt (view_in (peer_in r.peers v).views fl).base row.at.base) row.ack P kept.0.ack o (ap (λ (z : Report). z.ack) same ∙ ack)),
          λ o os rels. named o (All-head P o os
              (subst (All P) (ap (λ (z : Report). z.rels) same ∙ rels)
              (All-take P (max_rels format) (over_list kind edge (slot_of r v fl).rels) of_list))),
        )

-- an object that names the boots that count is dated where they are held
pub names_dated : (ls : List Life) (flow : Flow) (a b : ℕ) (body : Body) → held_boot ls flow.src ≡ a → held_boot ls flow.dst ≡ b
    → NamesBoots flow a b body → is_dated ls body ≡ true
names_dated ls flow a b (bodies.Rel r) src dst names = boots_held ls r.src r.dst r.sboot r.dboot flow a b src dst names
names_dated ls flow a b (bodies.Ack k) src dst names = boots_held ls k.src k.dst k.sboot k.dboot flow a b src dst names
names_dated ls flow a b (bodies.Krel r) src dst names = boots_held ls r.src r.dst r.sboot r.dboot flow a b src dst names
names_dated ls flow a b (bodies.Kack k) src dst names = boots_held ls k.src k.dst k.sboot k.dboot flow a b src dst names
names_dated ls flow a b (bodies.Prio p) src dst names = absurd names
names_dated ls flow a b (bodies.Weight p) src dst names = absurd names
names_dated ls flow a b (bodies.Epoch p) src dst names = absurd names
