-- The checks of what was read of a frame are those of its pieces, and those of its messages are counted one message after another.
use Rattle.std.proofs.Common.{◌≡◌, ◌≤◌, ℕ, ◌+◌, Bool, true, false, List, [], ◌∷◌, ◌++◌, Option, None, Some, drop, map, option_map, refl, sym, ap, ◌∙◌, arith}
use Rattle.std.specs.List.{slice_get}
use Rattle.sp_base.proofs.FewLemmas.{drop_first}
use Rattle.std.specs.Prelude.{◌||◌}
use Rattle.sp_base.specs.declared.id.Flow.{Flow}
use Rattle.sp_frame.specs.Reliable.{Report}
use Rattle.sp_frame.specs.Views.{as_contents, as_list, as_numbered, as_object, as_report}
use Rattle.sp_frame.specs.declared.object.ObjectRef.{ObjectRef}
use Rattle.sp_frame.specs.declared.sections.Sections.{Sections}
use Rattle.sp_frame.specs.declared.sections.Slot.{Slot}
use Rattle.sp_msg.specs.declared.kept.Kept.{Kept}
use Rattle.sp_rules.specs.Handle.{Arrival}
use Rattle.sp_rules.specs.Parts.{Parts, flows_of}
use Rattle.sp_rules.specs.Pieces.{AckPiece, EpochPiece, Piece, PrioAckPiece, RelPiece, WeightPiece, pieces_of, prio_piece, slot_pieces}
use Rattle.sp_rules.specs.Prio.{PrioState}
use Rattle.sp_rules.specs.Rel.{RelState}
use Rattle.sp_rules.specs.declared.kflow.FlowKind.{FlowKind}
use Rattle.sp_rules.specs.declared.kflow.FlowKind.TheVariants.{Plain, Paths}
use Rattle.sp_rules.specs.declared.lives.Life.{Life}
use Rattle.sp_node_arrivals.specs.Ack.{ack_checks, acked_by}
use Rattle.sp_node_arrivals.specs.Epoch.{epoch_checks}
use Rattle.sp_node_arrivals.specs.Prio.{prio_checks, prios_checks}
use Rattle.sp_node_arrivals.specs.Rel.{Ground, ground_of, is_followed, rel_checks, rels_checks}
use Rattle.sp_node_arrivals.specs.Signed.{of_some}
use Rattle.sp_node_arrivals.specs.Slot.{slot_checks}
use Rattle.sp_node_arrivals.specs.Weight.{weight_checks}
use Rattle.sp_node_arrivals.specs.Work.{checks_for, frame_checks, section_checks}

-- what comes after a slot costs the same whatever was new in it
abbrev StandsAlone : Arrival → Parts → List Piece → Type 0
StandsAlone at p rest = (moved : Bool) → checks_for at p moved rest ≡ checks_for at p false rest

-- so does an Epoch object, which comes last
epoch_is : (at : Arrival) (p : Parts) (moved : Bool) (o : Option Kept)
    → of_some (epoch_checks at.fixed.me p.lives) o ≡ checks_for at p moved (map EpochPiece (as_list o))
epoch_is at p moved None = refl
epoch_is at p moved (Some o) = omega arith

epoch_alone : (at : Arrival) (p : Parts) (o : Option Kept) → StandsAlone at p (map EpochPiece (as_list o))
epoch_alone at p o moved = sym (epoch_is at p moved o) ∙ epoch_is at p false o

-- and a slot, which begins with its report
slot_alone : (at : Arrival) (p : Parts) (kind : FlowKind) (slot : Option Report) (rest : List Piece) → StandsAlone at p rest
    → StandsAlone at p (slot_pieces kind slot ++ rest)
slot_alone at p kind None rest alone = alone
slot_alone at p kind (Some r) rest alone = λ moved. refl

rels_are : (at : Arrival) (p : Parts) (kind : FlowKind) (flow : Flow) (moved : Bool) (os : List Kept) (rest : List Piece) → StandsAlone at p rest
    → rels_checks moved (ground_of at p) (flows_of kind p) flow os + checks_for at p false rest ≡ checks_for at p moved (map (RelPiece kind flow) os ++ rest)
rels_are at p kind flow moved [] rest alone = let same = alone moved in omega (arith, same)
rels_are at p kind flow moved (o ∷ os) rest alone =
    let others = rels_are at p kind flow (moved || is_followed moved (ground_of at p) (flows_of kind p) flow o) os rest alone in
    omega (arith, others)

slot_objects : (at : Arrival) (p : Parts) (kind : FlowKind) (flow : Flow) (ack : Option Kept) (os : List Kept) (rest : List Piece) → StandsAlone at p rest
    → of_some (ack_checks p.lives (flows_of kind p) flow) ack
    + rels_checks (acked_by at.fixed p.lives (flows_of kind p) flow ack) (ground_of at p) (flows_of kind p) flow os + checks_for at p false rest
    ≡ checks_for at p false ((map (AckPiece kind flow) (as_list ack) ++ map (RelPiece kind flow) os) ++ rest)
slot_objects at p kind flow None os rest alone = let same = rels_are at p kind flow false os rest alone in omega (arith, same)
slot_objects at p kind flow (Some a) os rest alone =
    let others = rels_are at p kind flow (acked_by at.fixed p.lives (flows_of kind p) flow (Some a)) os rest alone in
    omega (arith, others)

slot_is : (at : Arrival) (p : Parts) (kind : FlowKind) (slot : Option Slot) (rest : List Piece) → StandsAlone at p rest
    → of_some (slot_checks (ground_of at p) (flows_of kind p)) slot + checks_for at p false rest
    ≡ checks_for at p false (slot_pieces kind (option_map as_report slot) ++ rest)
slot_is at p kind None rest alone = omega arith
slot_is at p kind (Some s) rest alone = slot_objects at p kind s.flow (option_map as_object s.ack) (map as_object s.rels) rest alone

prios_are : (at : Arrival) (p : Parts) (ms : List (ℕ × Kept)) (rest : List Piece)
    → prios_checks at p.lives p.prio ms + checks_for at p false rest ≡ checks_for at p false (map prio_piece ms ++ rest)
prios_are at p [] rest = omega arith
prios_are at p (m ∷ ms) rest = let others = prios_are at p ms rest in omega (arith, others)

weight_is : (at : Arrival) (p : Parts) (o : Option Kept) (rest : List Piece)
    → of_some (weight_checks at.fixed.me p.weights) o + checks_for at p false rest ≡ checks_for at p false (map WeightPiece (as_list o) ++ rest)
weight_is at p None rest = omega arith
weight_is at p (Some o) rest = refl

pub as_pieces : (at : Arrival) (p : Parts) (s : Sections) → section_checks at p s ≡ frame_checks at p (pieces_of (as_contents s))
as_pieces at p s =
    let end : List Piece = map EpochPiece (as_list (option_map as_object s.epoch)) in
    let over : List Piece = slot_pieces Paths (option_map as_report s.paths) ++ end in
    let tail : List Piece = slot_pieces Plain (option_map as_report s.slot) ++ over in
    let prios : List Piece = map prio_piece (map as_numbered s.prios) ++ tail in
    let weight : ℕ = of_some (weight_checks at.fixed.me p.weights) (option_map as_object s.weight) in
    let prio : ℕ = prios_checks at p.lives p.prio (map as_numbered s.prios) in
    let slot : ℕ = of_some (slot_checks (ground_of at p) p.rel) s.slot in
    let paths : ℕ = of_some (slot_checks (ground_of at p) p.kflow.flows) s.paths in
    let epoch : ℕ = of_some (epoch_checks at.fixed.me p.lives) (option_map as_object s.epoch) in
    let alone : StandsAlone at p end = epoch_alone at p (option_map as_object s.epoch) in
    let last : epoch ≡ checks_for at p false end = epoch_is at p false (option_map as_object s.epoch) in
    let one : paths + checks_for at p false end ≡ checks_for at p false over = slot_is at p Paths s.paths end alone in
    let two : slot + checks_for at p false over ≡ checks_for at p false tail =
    slot_is at p Plain s.slot over (slot_alone at p Paths (option_map as_report s.paths) end alone) in
    let three : prio + checks_for at p false tail ≡ checks_for at p false prios = prios_are at p (map as_numbered s.prios) tail in
    let four : weight + checks_for at p false prios ≡ frame_checks at p (pieces_of (as_contents s)) =
    weight_is at p (option_map as_object s.weight) (PrioAckPiece s.prio_ack ∷ prios) in
    omega (arith, last, one, two, three, four)

-- ---- going through the messages by their places

pub prios_from : (at : Arrival) (lives : List Life) (s : PrioState) (ms : List (ℕ × ObjectRef)) (i : ℕ) (m : ℕ × ObjectRef) → slice_get ms i ≡ Some m
    → prios_checks at lives s (map as_numbered (drop i ms)) ≡ prio_checks at lives s (as_object m.1) + prios_checks at lives s
    (map as_numbered (drop (i + 1) ms))
prios_from at lives s ms i m there = ap (λ (xs : List (ℕ × ObjectRef)). prios_checks at lives s (map as_numbered xs)) (drop_first ms i m there)

pub rels_from : (moved : Bool) (g : Ground) (r : RelState) (flow : Flow) (os : List ObjectRef) (i : ℕ) (o : ObjectRef) → slice_get os i ≡ Some o
    → rels_checks moved g r flow (map as_object (drop i os))
    ≡ rel_checks moved g r flow (as_object o) + rels_checks (moved || is_followed moved g r flow (as_object o)) g r flow (map as_object (drop (i + 1) os))
rels_from moved g r flow os i o there = ap (λ (xs : List ObjectRef). rels_checks moved g r flow (map as_object xs)) (drop_first os i o there)

-- something that is ready comes before what is left where it came before this message, or this message is ready
pub moved_on : (moved first on : Bool) → moved ≡ true → on ≡ moved → on ≡ (moved || first)
moved_on true first on is same = same
moved_on false first on is same = absurd (cc)

pub moved_here : (moved first on : Bool) → moved ≡ false → on ≡ first → on ≡ (moved || first)
moved_here false first on is same = same
moved_here true first on is same = absurd (cc)

-- the checks of one message, and then of those after it
pub rels_then : (moved ready on : Bool) (g : Ground) (r : RelState) (flow : Flow) (os : List ObjectRef) (i : ℕ) (o : ObjectRef) (old between new : ℕ)
    → slice_get os i ≡ Some o → on ≡ (moved || ready) → ready ≡ is_followed moved g r flow (as_object o)
    → between ≤ old + rel_checks moved g r flow (as_object o) → new ≤ between + rels_checks on g r flow (map as_object (drop (i + 1) os))
    → new ≤ old + rels_checks moved g r flow (map as_object (drop i os))
rels_then moved ready on g r flow os i o old between new there on_is follows one two =
    let rest : List Kept = map as_object (drop (i + 1) os) in
    let later = ap (λ (b : Bool). rels_checks b g r flow rest) (on_is ∙ ap (λ (b : Bool). moved || b) follows) in
    let all = rels_from moved g r flow os i o there in
    omega (arith, one, two, later, all)
