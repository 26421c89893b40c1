-- The journal of a run tells no more deliveries of an event than a frame has bytes.
use Rattle.laws_runs.proofs.NoStarts.{beside}
use Rattle.std.proofs.Common.{◌≡◌, ◌≤◌, ℕ, suc, ◌+◌, ◌-◌, ◌*◌, ◌==◌, Bool, true, false, cond, List, [], ◌∷◌, ◌++◌, length, length-append, map, filter, Option}
use Rattle.std.proofs.Common.{Some, None, Result, Ok, Err, refl, sym, ap, subst, inl, inr, arith, nat_lt}
use Rattle.std.specs.List.{flat_map}
use Rattle.std.specs.Prelude.{IfSome}
use Rattle.std.proofs.lemmas.Bool.{cases_Bool}
use Rattle.std.proofs.lemmas.Bool.Decides.{nat_tests}
use Rattle.std.proofs.lemmas.List.{length-drop, length-take}
use Rattle.std.proofs.lemmas.List.Concat.{flat_map-append}
use Rattle.byteorder.specs.Endian.{big_bytes}
use Rattle.laws_node.proofs.Objects.{objects_are_answered}
use Rattle.laws_node.specs.Inputs.{InputFits}
use Rattle.laws_node.specs.Objects.{objects_in}
use Rattle.laws_runs.proofs.SignedEvents.{even}
use Rattle.laws_runs.proofs.Signed.{reached}
use Rattle.sp_base.specs.Spelling.{AreBytes}
use Rattle.sp_base.specs.declared.format.TheConstants.{FORMAT_1}
use Rattle.sp_base.specs.declared.id.NodeId.{NodeId}
use Rattle.sp_frame.proofs.SectionLemmas.{read_is_spelled}
use Rattle.sp_frame.specs.Frames.{opened_in, sections_part, tagged_part}
use Rattle.sp_frame.specs.Grammar.{later_bytes}
use Rattle.sp_frame.specs.Objects.{IsObject, object_bytes}
use Rattle.sp_frame.specs.Prioritized.{numbered_bytes, prios_bytes}
use Rattle.sp_frame.specs.Probes.{epoch_bytes, probes_bytes}
use Rattle.sp_frame.specs.Ranges.{IsContentsIn, IsDocument, IsReport, Later}
use Rattle.sp_frame.specs.Reliable.{Report, ack_bytes, paths_bytes, place_bytes, rels_bytes, report_bytes, slot_bytes}
use Rattle.sp_frame.specs.Sections.{Contents, control_bytes, plain_bytes, sections_bytes_in, sections_of_in}
use Rattle.sp_frame.specs.Views.{as_list}
use Rattle.sp_frame.specs.Weights.{weights_bytes}
use Rattle.sp_frame.specs.declared.kind.Kind.TheVariants as kinds
use Rattle.sp_frame.specs.declared.frame.TheConstants.{MAX_FRAME_BYTES}
use Rattle.sp_frame.specs.declared.refused.FrameRefused.TheVariants as frames
use Rattle.sp_frame.specs.declared.refused.SectionRefused.{SectionRefused}
use Rattle.sp_journal.specs.JournalText.{is_delivered, is_delivered_prio}
use Rattle.sp_journal.specs.declared.entry.Entry.{Entry}
use Rattle.sp_msg.specs.declared.effect.Effect.{Effect}
use Rattle.sp_msg.specs.declared.effect.Effect.TheVariants.{Signed}
use Rattle.sp_msg.specs.declared.kept.Kept.{Kept}
use Rattle.sp_node_format.specs.Format.{format_in}
use Rattle.sp_rules.proofs.ArrivalLemmas.{of_frame}
use Rattle.sp_rules.specs.Arrivals.{arrival_at, handled, parts_met, pieces_in, pieces_where, reply_at, sections_in, heeded}
use Rattle.sp_rules.specs.KflowSends.{send_krel_refusal}
use Rattle.sp_rules.specs.Node.{NodeState, call_refusal, link_in, own_epoch, start_effects, is_shut_to}
use Rattle.sp_rules.specs.Parts.{Fixed}
use Rattle.sp_rules.specs.Pieces.{Piece, pieces_of}
use Rattle.sp_rules.specs.Sends.{send_prio_refusal}
use Rattle.sp_rules.specs.Steps as steps
use Rattle.sp_rules.specs.Steps.{Input, NodeStep, Output, accepted, refused_call, refused_send}
use Rattle.sp_rules.specs.declared.answers.Item.{Item}
use Rattle.sp_rules.specs.declared.node.LinkReply.{LinkReply}
use Rattle.sp_rules.specs.declared.node.LinkReply.TheVariants as links
use Rattle.sp_rules.specs.declared.node.NodeRefused.{NodeRefused}
use Rattle.sp_msg.specs.declared.refused.SendRefused.{SendRefused}
use Rattle.sp_runs.specs.Lives.{next_start}
use Rattle.sp_runs.specs.Runs.{Clean, InRange, Lives, Moves, Stays, Starts, Turn, Turned}
use Rattle.sp_runs.specs.Scenarios.{setting_of}
use Rattle.sp_runs.specs.Settings.{Setting, SettingFits, fixed_at}
use Rattle.sp_runs.specs.Worlds.{World}
use Rattle.sp_schedule_events.specs.declared.event.Event.{Event}
use Rattle.laws_runs_format.specs.Arts.{arts_of}
use Rattle.laws_runs_format.specs.Journals.{JournalsAreCountable}
use Rattle.laws_runs.proofs.LifeCases.{Exhausts, LifeCase, Nobody, Starts_now, Stops, life_case}
use Rattle.laws_runs_format.proofs.EffectCounts.{TellsDeliveries, step_most}
use Rattle.laws_runs_format.proofs.FrameBytes.{end_objects, objects_are, prio_objects, slot_objects}
use Rattle.laws_runs_format.proofs.Headers.{headers_fit}
use Rattle.laws_runs_format.proofs.ReadBack.{format_carries, part_are}

-- ---- sections have at least a byte for each object

a_byte : (format : ℕ) (o : Kept) → 1 ≤ length (object_bytes format o)
unfolding object_bytes
a_byte format o = omega arith

a_byte_more : (format : ℕ) (m : ℕ × Kept) → 1 ≤ length (numbered_bytes format m)
unfolding numbered_bytes
a_byte_more format m = omega arith

one_each : {X : Type 0} (spell : X → List ℕ) → ((x : X) → 1 ≤ length (spell x)) → (xs : List X) → length xs ≤ length (flat_map spell xs)
one_each spell each [] = omega arith
one_each spell each (x ∷ xs) = omega (arith, length-append (spell x) (flat_map spell xs), each x, one_each spell each xs)

weights_long : (format : ℕ) (os : List Kept) → length os ≤ length (weights_bytes format os)
unfolding weights_bytes
weights_long format os = omega (arith, one_each (object_bytes format) (a_byte format) os)

prios_long : (format : ℕ) (ms : List (ℕ × Kept)) → length ms ≤ length (prios_bytes format ms)
unfolding prios_bytes
prios_long format ms = omega (arith, one_each (numbered_bytes format) (a_byte_more format) ms)

rels_long : (format : ℕ) (os : List Kept) → length os ≤ length (rels_bytes format os)
unfolding rels_bytes
rels_long format os = omega (arith, one_each (object_bytes format) (a_byte format) os)

ack_long : (format : ℕ) (o : Option Kept) → length (as_list o) ≤ length (ack_bytes format o)
unfolding ack_bytes
ack_long format None = omega arith
ack_long format (Some o) = omega (arith, a_byte format o)

report_long : (format : ℕ) (r : Report) → length (ack_bytes format r.ack) + length (rels_bytes format r.rels) ≤ length (report_bytes format r)
unfolding report_bytes
report_long format r =
    let place = place_bytes format r in
    let ack = ack_bytes format r.ack in
    omega (arith, length-append (place ++ ack) (rels_bytes format r.rels), length-append place ack)

slot_long : (format : ℕ) (o : Option Report) → length (slot_objects o) ≤ length (slot_bytes format o)
unfolding slot_bytes
slot_long format None = omega arith
slot_long format (Some r) = omega (arith, length-append (as_list r.ack) r.rels, ack_long format r.ack, rels_long format r.rels, report_long format r)

map_long : (ms : List (ℕ × Kept)) → length (prio_objects ms) ≡ length ms
map_long [] = refl
map_long (m ∷ ms) = ap suc (map_long ms)

epoch_long : (format len : ℕ) (o : Option Kept) → IfSome o (Later format (IsObject format kinds.Epoch len)) → length (as_list o) ≤ length (epoch_bytes format o)
unfolding epoch_bytes
epoch_long format len None is = omega arith
epoch_long format len (Some o) is = go (format == FORMAT_1) is.0
  where
    go : (t : Bool) → t ≡ false → 1 ≤ length (later_bytes (object_bytes format) t (Some o))
    go true e = absurd (cc)
    go false e = omega (arith, a_byte format o)

-- how many objects sections have
objects_long : (s : Contents) → length (objects_in (pieces_of s))
    ≡ length s.weights + length (prio_objects s.prios) + length (slot_objects s.slot) + length (slot_objects s.paths) + length (as_list s.epoch)
objects_long s =
    let are = ap length (objects_are s) in
    let objects = length-append s.weights (prio_objects s.prios ++ end_objects s) in
    let rest = length-append (prio_objects s.prios) (end_objects s) in
    let slots = length-append (slot_objects s.slot) (slot_objects s.paths ++ as_list s.epoch) in
    let last = length-append (slot_objects s.paths) (as_list s.epoch) in
    omega (arith, are, objects, rest, slots, last)

paths_long : (format len : ℕ) (o : Option Report) → IfSome o (Later format (IsReport format kinds.Kack kinds.Krel len))
    → length (slot_objects o) ≤ length (paths_bytes format o)
unfolding paths_bytes
paths_long format len None is = omega arith
paths_long format len (Some r) is = go (format == FORMAT_1) is.0
  where
    go : (t : Bool) → t ≡ false → length (slot_objects (Some r)) ≤ length (later_bytes (report_bytes format) t (Some r))
    go true e = absurd (cc)
    go false e = omega (arith, length-append (as_list r.ack) r.rels, ack_long format r.ack, rels_long format r.rels, report_long format r)

plain_long : (format len : ℕ) (s : Contents) → IsContentsIn format len s → length (objects_in (pieces_of s)) ≤ length (plain_bytes format s)
unfolding plain_bytes
plain_long format len s is =
    let front = weights_bytes format s.weights ++ big_bytes 8 s.prio_ack in
    let most = front ++ prios_bytes format s.prios in
    let with_slot = most ++ slot_bytes format s.slot in
    let with_paths = with_slot ++ paths_bytes format s.paths in
    let last = length-append (with_paths ++ probes_bytes format s.probe) (epoch_bytes format s.epoch) in
    let before = length-append with_paths (probes_bytes format s.probe) in
    let paths = length-append with_slot (paths_bytes format s.paths) in
    let slot = length-append most (slot_bytes format s.slot) in
    let prios = length-append front (prios_bytes format s.prios) in
    let first = length-append (weights_bytes format s.weights) (big_bytes 8 s.prio_ack) in
    let objects = objects_long s in
    let epoch = epoch_long format len s.epoch is.epoch in
    let on_paths = paths_long format len s.paths is.paths in
    let each_weight = weights_long format s.weights in
    let each_prio = prios_long format s.prios in
    omega (arith, last, before, paths, slot, prios, first, objects, on_paths, epoch, map_long s.prios, each_weight, each_prio, slot_long format s.slot)

-- a document comes alone
sections_long : (format : ℕ) (len : ℕ) (s : Contents) → IsContentsIn format len s → length (objects_in (pieces_of s)) ≤ length (sections_bytes_in format s)
unfolding sections_bytes_in
sections_long format len s is = go s.document refl is.document
  where
    go : (d : Option (List ℕ)) → s.document ≡ d → IfSome d (Later format (IsDocument s)) → length (objects_in (pieces_of s)) ≤ length (control_bytes format s d)
    go None none later = plain_long format len s is
    go (Some document) some later =
        let alone : length (objects_in (pieces_of s)) ≡ 0 = ap (λ (c : Contents). length (objects_in (pieces_of c))) later.1.alone in
        omega (arith, alone)

-- ---- so a datagram has fewer objects than a frame may have bytes

part_short : (bytes : List ℕ) → length (sections_part bytes) ≤ length bytes - 33
part_short bytes = omega (arith, length-drop 33 (tagged_part bytes), length-take (length bytes - 32) bytes)

nothing_more : (l : LinkReply) (ps : List Piece) → length (objects_in (pieces_where l ps)) ≤ length (objects_in ps)
nothing_more links.Fresh ps = omega arith
nothing_more links.TooLong ps = omega arith
nothing_more (links.Short short) ps = omega arith
nothing_more links.Magic ps = omega arith
nothing_more links.Version ps = omega arith
nothing_more links.NotForMe ps = omega arith
nothing_more links.BadTag ps = omega arith
nothing_more (links.Learned boot) ps = omega arith
nothing_more (links.Stale boot counter) ps = omega arith
nothing_more (links.OtherTopology theirs) ps = omega arith
nothing_more (links.Section refused) ps = omega arith
nothing_more links.Withdrawn ps = omega arith

-- what is heeded of them is no more
heeded_few : (f : Fixed) (s : Contents) → length (objects_in (pieces_in f (Ok s))) ≤ length (objects_in (pieces_of s))
heeded_few f s = beside (λ ps. length (objects_in ps) ≤ length (objects_in (pieces_of s))) s.document (pieces_of (heeded f s)) (omega arith) (go f.epochs)
  where
    less : length (objects_in (pieces_of (record s { epoch = None }))) ≤ length (objects_in (pieces_of s))
    less = omega (arith, objects_long s, objects_long (record s { epoch = None }))

    go : (t : Bool) → length (objects_in (pieces_of (cond t s (record s { epoch = None })))) ≤ length (objects_in (pieces_of s))
    go true = omega arith
    go false = less

read_few : (format : ℕ) (len : ℕ) (bytes : List ℕ) (r : Result Contents SectionRefused) → AreBytes bytes → sections_of_in format len (sections_part bytes) ≡ r
    → (f : Fixed) → length (objects_in (pieces_in f r)) ≤ length bytes - 33
read_few format len bytes (Ok s) are is f =
    let spelling = read_is_spelled format len (sections_part bytes) s (part_are bytes are) is in
    omega (arith, heeded_few f s, sections_long format len s spelling.1, ap length spelling.0, part_short bytes)
read_few format len bytes (Err refused) are is f = omega arith

few_objects : (format : ℕ) (n : NodeState) (u : NodeId) (bytes : List ℕ) → AreBytes bytes
    → let arts = format_in format in
    length (objects_in (pieces_where (reply_at arts n u bytes) (pieces_in n.fixed (sections_in arts n.fixed bytes)))) ≤ MAX_FRAME_BYTES - 33
few_objects format n u bytes are = elim (cases_Bool (nat_lt MAX_FRAME_BYTES (length bytes))) [
  | inl long ↦
      let is : opened_in format bytes ≡ Err frames.TooLong = rw long refl in
      let reply : reply_at (format_in format) n u bytes ≡ links.TooLong =
      ap (of_frame (format_in format) n.fixed n.live.version (is_shut_to n u) (link_in n u) bytes) is in
      rw reply (omega arith)
  | inr short ↦
      let within : length bytes ≤ MAX_FRAME_BYTES = grind (arith, nat_tests) in
      let read = read_few format n.fixed.signature_len bytes _ are refl n.fixed in
      omega (arith, within, nothing_more (reply_at (format_in format) n u bytes) (pieces_in n.fixed (sections_in (format_in format) n.fixed bytes)), read)
]

answers_long : (xs : List (Kept × Item)) → length (map (λ (a : Kept × Item). a.0) xs) ≡ length xs
answers_long [] = refl
answers_long (x ∷ xs) = ap suc (answers_long xs)

answered_few : (format : ℕ) (old new : NodeState) (input : Input) (output : Output) → InputFits input → NodeStep (format_in format) old input output new
    → length output.answered ≤ MAX_FRAME_BYTES - 33
answered_few format old new (steps.Poll v) output fits step = rw step.0 (quiet (call_refusal old v) _ (omega arith))
  where
    quiet : (r : Option NodeRefused) (o : Output) → length o.answered ≤ MAX_FRAME_BYTES - 33 → length (refused_call r o).answered ≤ MAX_FRAME_BYTES - 33
    quiet (Some r) o few = omega arith
    quiet None o few = few
answered_few format old new (steps.Datagram u bytes) output fits step =
    rw step.0 (heard (call_refusal old u))
  where
    heard : (r : Option NodeRefused) → length (refused_call r (steps.arrived (format_in format) old u bytes)).answered ≤ MAX_FRAME_BYTES - 33
    heard (Some r) = omega arith
    heard None =
        let pieces = pieces_where (reply_at (format_in format) old u bytes) (pieces_in old.fixed (sections_in (format_in format) old.fixed bytes)) in
        let objects = objects_are_answered (format_in format) (arrival_at old u) (parts_met (format_in format) old u bytes) pieces in
        omega (arith, few_objects format old u bytes fits, ap length objects, answers_long (handled (format_in format) old u bytes).answered)
answered_few format old new (steps.Tick now) output fits step = rw step.0 (omega arith)
answered_few format old new (steps.SendRel d payload) output fits step = rw step.0 (silent _ _ _)
  where
    silent : (r : Option SendRefused) (seq : ℕ) (es : List Effect) → length (refused_send r (accepted seq es)).answered ≤ MAX_FRAME_BYTES - 33
    silent (Some r) seq es = omega arith
    silent None seq es = omega arith
answered_few format old new (steps.SendPrio m) output fits step = rw step.output_is (silent (send_prio_refusal old m step.choice) _ _)
  where
    silent : (r : Option SendRefused) (seq : ℕ) (es : List Effect) → length (refused_send r (accepted seq es)).answered ≤ MAX_FRAME_BYTES - 33
    silent (Some r) seq es = omega arith
    silent None seq es = omega arith
answered_few format old new (steps.SendKrel m) output fits step = rw step.output_is (silent (send_krel_refusal old m step.choice) _ _)
  where
    silent : (r : Option SendRefused) (seq : ℕ) (es : List Effect) → length (refused_send r (accepted seq es)).answered ≤ MAX_FRAME_BYTES - 33
    silent (Some r) seq es = omega arith
    silent None seq es = omega arith
answered_few format old new (steps.SetWeight v weight) output fits step = rw step.0 (silent _ _ _)
  where
    silent : (r : Option SendRefused) (seq : ℕ) (es : List Effect) → length (refused_send r (accepted seq es)).answered ≤ MAX_FRAME_BYTES - 33
    silent (Some r) seq es = omega arith
    silent None seq es = omega arith
answered_few format old new (steps.TakeRel u) output fits step = rw step.0 (omega arith)
answered_few format old new (steps.TakeKrel u) output fits step = rw step.0 (omega arith)
answered_few format old new steps.TakePrio output fits step = rw step.0 (omega arith)
answered_few format old new (steps.Publish document) output fits step = rw step.0 (omega arith)

-- ---- a whole run

module _ (p : Effect → Bool) (tells : TellsDeliveries p) where
  found_in : Entry → List Effect
  found_in j = filter p j.effects

  one_turn : (x : Setting) (es : List Event) (js : List Entry) (old new : World) (e : Event) (j : Entry) → SettingFits (arts_of x) x
      → Clean (arts_of x) x es js old → InRange x es e
      → Turn (arts_of x) x old e j new → length (filter p j.effects) ≤ MAX_FRAME_BYTES
  one_turn x es js old new e j fits run range (Moves m) =
      let most = step_most p tells (arts_of x) m.node m.after m.input m.output m.step in
      let fit = reached (arts_of x) x es js old new e j fits (format_carries x.topology.format) run range m in
      let few = answered_few x.topology.format m.node m.after m.input m.output fit m.step in
      rw m.journal.effects (omega (arith, most, few))
  one_turn x es js old new e j fits run range (Stays s) = rw s.effects (omega arith)
  one_turn x es js old new e j fits run range (Lives on l) = life (life_case (arts_of x) x old e j new l)
    where
      start : (u : NodeId) (boot : ℕ) → length (filter p (start_effects (arts_of x) (fixed_at x u boot))) ≤ MAX_FRAME_BYTES
      start u boot = go x.epochs
        where
          go : (on : Bool) → length (filter p (cond on (Signed ((arts_of x).spell (own_epoch (fixed_at x u boot))) ∷ []) [])) ≤ MAX_FRAME_BYTES
          go true = rw (tells.signed ((arts_of x).spell (own_epoch (fixed_at x u boot)))) (omega arith)
          go false = omega arith

      life : LifeCase (arts_of x) x old e j new → length (filter p j.effects) ≤ MAX_FRAME_BYTES
      life (Starts_now u is s) =
          subst (λ (effects : List Effect). length (filter p effects) ≤ MAX_FRAME_BYTES) (sym s.effects) (start u (next_start x old u).boot)
      life (Exhausts u is none) = rw none.effects (omega arith)
      life (Stops u is stop) = rw stop.effects (omega arith)
      life (Nobody other down) = rw down.effects (omega arith)

  pub all_few : (x : Setting) (es : List Event) (js : List Entry) (w : World) → SettingFits (arts_of x) x → Clean (arts_of x) x es js w
      → length (flat_map (λ (j : Entry). filter p j.effects) js) ≤ MAX_FRAME_BYTES * length js
  all_few x es js w fits Starts = omega arith
  all_few x es js w fits (Turned {es = es'} {js = js'} {old = old} {new = new} {e = e} {j = j} run range turn unforged) =
      let F : Entry → List Effect = λ j. filter p j.effects in
      let here = one_turn x es' js' old new e j fits run range turn in
      let before = all_few x es' js' old fits run in
      omega (
        arith,
        ap length (flat_map-append F js' (j ∷ [])),
        length-append (flat_map F js') (flat_map F (j ∷ [])),
        length-append js' (j ∷ []),
        length-append (F j) [],
        here,
        before,
        arith,
      )

pub journals_are_countable : JournalsAreCountable
journals_are_countable s es js w graph run =
    let fits = headers_fit s graph in
    record {
      entries = sym (even (arts_of (setting_of s)) (setting_of s) es js w run);
      deliveries =
          all_few is_delivered (record {
            signed = λ b. refl;
            stored = λ a b c d e. refl;
            gone = λ a b c. refl;
            held = λ a b c d. refl;
            ended = λ f. refl;
            kended = λ f. refl;
            version = λ v. refl;
          }) (setting_of s) es js w fits run;
      priority =
          all_few is_delivered_prio (record {
            signed = λ b. refl;
            stored = λ a b c d e. refl;
            gone = λ a b c. refl;
            held = λ a b c d. refl;
            ended = λ f. refl;
            kended = λ f. refl;
            version = λ v. refl;
          }) (setting_of s) es js w fits run;
    }
