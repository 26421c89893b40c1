-- A frame's sections are bytes exactly where the payloads and signatures of its objects are.
use Rattle.std.proofs.Common.{◌≡◌, ◌<◌, ◌==◌, ℕ, Bool, true, false, List, [], ◌∷◌, ◌++◌, length, map, append_assoc, Option, Some, None, arith}
use Rattle.std.proofs.Common.{refl, sym, ap, ap₂, subst, ◌∙◌, arith}
use Rattle.std.specs.List.{All, flat_map}
use Rattle.std.specs.Prelude.{IfSome}
use Rattle.std.proofs.lemmas.List.Elements.{All-append, All-cons, All-head, All-nil, All-tail}
use Rattle.byteorder.specs.Endian.{big_bytes}
use Rattle.sp_base.specs.Spelling.{AreBytes}
use Rattle.sp_frame.specs.Frames.{ends_bytes, head_bytes, numbers_bytes}
use Rattle.sp_frame.specs.Grammar.{counted_bytes, later_bytes}
use Rattle.sp_frame.specs.Objects.{IsObject, object_bytes}
use Rattle.sp_frame.specs.Prioritized.{numbered_bytes, prios_bytes}
use Rattle.sp_frame.specs.Probes.{epoch_bytes, probe_bytes, probes_bytes}
use Rattle.sp_frame.specs.Ranges.{IsContentsIn, IsDocument, IsReport, Later}
use Rattle.sp_frame.specs.Reliable.{Report, ack_bytes, boot_bytes, paths_bytes, place_bytes, rels_bytes, report_bytes, slot_bytes}
use Rattle.sp_frame.specs.Sections.{Contents, control_bytes, plain_bytes, sections_bytes_in, document_bytes, sized_bytes, with_document, zeros_bytes}
use Rattle.sp_frame.specs.Views.{as_list}
use Rattle.sp_frame.specs.Weights.{weights_bytes}
use Rattle.sp_frame.specs.declared.head.Head.{Head}
use Rattle.sp_frame.specs.declared.kind.Kind.TheVariants as kinds
use Rattle.sp_frame.specs.declared.probe.Probe.{Probe}
use Rattle.sp_base.specs.declared.format.TheConstants.{FORMAT_1}
use Rattle.sp_msg.specs.Bodies.{encoded_in, fields_of, kind_of, numbers_of, payload_of}
use Rattle.sp_msg.specs.Fields.{Rule, size_of, spelled}
use Rattle.sp_msg.specs.declared.body.Body.{Body}
use Rattle.sp_msg.specs.declared.body.Body.TheVariants as bodies
use Rattle.sp_msg.specs.declared.kept.Kept.{Kept}
use Rattle.sp_rules.specs.Pieces.{Piece, WeightPiece, PrioAckPiece, AckPiece, RelPiece, EpochPiece, pieces_of, prio_piece, slot_pieces}
use Rattle.sp_rules.specs.declared.kflow.FlowKind.{FlowKind}
use Rattle.sp_rules.specs.declared.kflow.FlowKind.TheVariants as flows
use Rattle.laws_node.specs.Objects.{objects_in, objects_of}
use Rattle.laws_runs.specs.Premises.{AreOfBytes, IsOfBytes, IsPlain}
use Rattle.laws_runs_format.proofs.Bytes.{joined, joined3, joined4, left, none, of_number, one_first, parts3, parts4, right}

-- ---- one object

spelled_are : (rules : List Rule) (xs : List ℕ) → AreBytes (spelled rules xs)
spelled_are [] xs = none
spelled_are (r ∷ rules) [] = none
spelled_are (r ∷ rules) (x ∷ xs) = joined (big_bytes (size_of r) x) (spelled rules xs) (of_number (size_of r) x) (spelled_are rules xs)

small_kind : (body : Body) → kind_of body < 256
small_kind (bodies.Prio p) = omega arith
small_kind (bodies.Rel r) = omega arith
small_kind (bodies.Ack a) = omega arith
small_kind (bodies.Weight w) = omega arith
small_kind (bodies.Krel w) = omega arith
small_kind (bodies.Kack w) = omega arith
small_kind (bodies.Epoch w) = omega arith

body_in : (format : ℕ) (body : Body) → AreBytes (payload_of body) → AreBytes (encoded_in format body)
body_in format body are =
    one_first (kind_of body) (spelled (fields_of format body) (numbers_of body) ++ payload_of body) (small_kind body)
    (joined (spelled (fields_of format body) (numbers_of body)) (payload_of body) (spelled_are (fields_of format body) (numbers_of body)) are)

body_out : (format : ℕ) (body : Body) → AreBytes (encoded_in format body) → AreBytes (payload_of body)
body_out format body are =
    right (spelled (fields_of format body) (numbers_of body)) (payload_of body)
    (All-tail (λ (b : ℕ). b < 256) (kind_of body) (spelled (fields_of format body) (numbers_of body) ++ payload_of body) are)

object_in : (format : ℕ) (o : Kept) → IsOfBytes o → AreBytes (object_bytes format o)
unfolding object_bytes
object_in format o h =
    joined4 (big_bytes 2 (length (encoded_in format o.body))) (encoded_in format o.body) (big_bytes 2 (length o.signature)) o.signature
    (of_number 2 (length (encoded_in format o.body))) (body_in format o.body h.0) (of_number 2 (length o.signature)) h.1

object_out : (format : ℕ) (o : Kept) → AreBytes (object_bytes format o) → IsOfBytes o
unfolding object_bytes
object_out format o are =
    let parts = parts4 (big_bytes 2 (length (encoded_in format o.body))) (encoded_in format o.body) (big_bytes 2 (length o.signature)) o.signature are in
    (body_out format o.body parts.1, parts.3)

-- ---- many

module _ {X : Type 0} (P : X → Type 0) (spell : X → List ℕ) where
  flat_in : ((x : X) → P x → AreBytes (spell x)) → (xs : List X) → All P xs → AreBytes (flat_map spell xs)
  flat_in each [] all = none
  flat_in each (x ∷ xs) all = joined (spell x) (flat_map spell xs) (each x (All-head P x xs all)) (flat_in each xs (All-tail P x xs all))

  flat_out : ((x : X) → AreBytes (spell x) → P x) → (xs : List X) → AreBytes (flat_map spell xs) → All P xs
  flat_out each [] are = All-nil P
  flat_out each (x ∷ xs) are =
      All-cons P x xs (each x (left (spell x) (flat_map spell xs) are)) (flat_out each xs (right (spell x) (flat_map spell xs) are))

  counted_in : ((x : X) → P x → AreBytes (spell x)) → (xs : List X) → All P xs → AreBytes (counted_bytes spell xs)
  counted_in each xs all = joined (big_bytes 1 (length xs)) (flat_map spell xs) (of_number 1 (length xs)) (flat_in each xs all)

  counted_out : ((x : X) → AreBytes (spell x) → P x) → (xs : List X) → AreBytes (counted_bytes spell xs) → All P xs
  counted_out each xs are = flat_out each xs (right (big_bytes 1 (length xs)) (flat_map spell xs) are)

IsNumberedOf : ℕ × Kept → Type 0
IsNumberedOf m = IsOfBytes m.1

numbered_in : (format : ℕ) (m : ℕ × Kept) → IsNumberedOf m → AreBytes (numbered_bytes format m)
unfolding numbered_bytes IsNumberedOf
numbered_in format m h = joined (big_bytes 8 m.0) (object_bytes format m.1) (of_number 8 m.0) (object_in format m.1 h)

numbered_out : (format : ℕ) (m : ℕ × Kept) → AreBytes (numbered_bytes format m) → IsNumberedOf m
unfolding numbered_bytes IsNumberedOf
numbered_out format m are = (object_out format) m.1 (right (big_bytes 8 m.0) (object_bytes format m.1) are)

-- ---- the slot

ack_in : (format : ℕ) (o : Option Kept) → All IsOfBytes (as_list o) → AreBytes (ack_bytes format o)
unfolding ack_bytes
ack_in format None all = of_number 1 0
ack_in format (Some o) all = joined (big_bytes 1 1) (object_bytes format o) (of_number 1 1) (object_in format o (All-head IsOfBytes o [] all))

ack_out : (format : ℕ) (o : Option Kept) → AreBytes (ack_bytes format o) → All IsOfBytes (as_list o)
unfolding ack_bytes
ack_out format None are = All-nil IsOfBytes
ack_out format (Some o) are = All-cons IsOfBytes o [] (object_out format o (right (big_bytes 1 1) (object_bytes format o) are)) (All-nil IsOfBytes)

place_are : (format : ℕ) (r : Report) → AreBytes (place_bytes format r)
unfolding place_bytes
place_are format r =
    let ends = big_bytes 1 r.flow.src.0 ++ big_bytes 1 r.flow.dst.0 in
    let wide = boot_bytes format in
    let source = ends ++ big_bytes wide r.sboot in
    let boots = source ++ big_bytes wide r.dboot in
    let ends_are = joined (big_bytes 1 r.flow.src.0) (big_bytes 1 r.flow.dst.0) (of_number 1 r.flow.src.0) (of_number 1 r.flow.dst.0) in
    let boots_are = joined source (big_bytes wide r.dboot) (joined ends (big_bytes wide r.sboot) ends_are (of_number wide r.sboot)) (of_number wide r.dboot) in
    joined (boots ++ big_bytes 8 r.base) (big_bytes 8 r.have) (joined boots (big_bytes 8 r.base) boots_are (of_number 8 r.base)) (of_number 8 r.have)

rels_in : (format : ℕ) (rs : List Kept) → All IsOfBytes rs → AreBytes (rels_bytes format rs)
unfolding rels_bytes
rels_in format rs all = counted_in IsOfBytes (object_bytes format) (object_in format) rs all

rels_out : (format : ℕ) (rs : List Kept) → AreBytes (rels_bytes format rs) → All IsOfBytes rs
unfolding rels_bytes
rels_out format rs are = counted_out IsOfBytes (object_bytes format) (object_out format) rs are

-- the objects of a slot
abbrev pub slot_objects : Option Report → List Kept
slot_objects None = []
slot_objects (Some r) = as_list r.ack ++ r.rels

all_left : (xs ys : List Kept) → All IsOfBytes (xs ++ ys) → All IsOfBytes xs
all_left [] ys all = All-nil IsOfBytes
all_left (x ∷ xs) ys all = All-cons IsOfBytes x xs (All-head IsOfBytes x (xs ++ ys) all) (all_left xs ys (All-tail IsOfBytes x (xs ++ ys) all))

all_right : (xs ys : List Kept) → All IsOfBytes (xs ++ ys) → All IsOfBytes ys
all_right [] ys all = all
all_right (x ∷ xs) ys all = all_right xs ys (All-tail IsOfBytes x (xs ++ ys) all)

report_in : (format : ℕ) (r : Report) → All IsOfBytes (as_list r.ack ++ r.rels) → AreBytes (report_bytes format r)
unfolding report_bytes
report_in format r all =
    joined3 (place_bytes format r) (ack_bytes format r.ack) (rels_bytes format r.rels)
    (place_are format r) (ack_in format r.ack (all_left (as_list r.ack) r.rels all))
    (rels_in format r.rels (all_right (as_list r.ack) r.rels all))

report_out : (format : ℕ) (r : Report) → AreBytes (report_bytes format r) → All IsOfBytes (as_list r.ack ++ r.rels)
unfolding report_bytes
report_out format r are =
    let parts = parts3 (place_bytes format r) (ack_bytes format r.ack) (rels_bytes format r.rels) are in
    All-append IsOfBytes (as_list r.ack) r.rels (ack_out format r.ack parts.1) (rels_out format r.rels parts.2)

slot_in : (format : ℕ) (s : Option Report) → All IsOfBytes (slot_objects s) → AreBytes (slot_bytes format s)
unfolding slot_bytes
slot_in format None all = of_number 1 0
slot_in format (Some r) all = joined (big_bytes 1 1) (report_bytes format r) (of_number 1 1) (report_in format r all)

slot_out : (format : ℕ) (s : Option Report) → AreBytes (slot_bytes format s) → All IsOfBytes (slot_objects s)
unfolding slot_bytes
slot_out format None are = All-nil IsOfBytes
slot_out format (Some r) are = (report_out format) r (right (big_bytes 1 1) (report_bytes format r) are)

-- ---- all objects, in their order

abbrev pub prio_objects : List (ℕ × Kept) → List Kept
prio_objects ms = map (λ m. m.1) ms

objects_both : (xs ys : List Piece) → objects_in (xs ++ ys) ≡ objects_in xs ++ objects_in ys
objects_both [] ys = refl
objects_both (x ∷ xs) ys = ap (λ (os : List Kept). objects_of x ++ os) (objects_both xs ys) ∙ sym (append_assoc (objects_of x) (objects_in xs) (objects_in ys))

each_one : (one : Kept → Piece) → ((o : Kept) → objects_of (one o) ≡ o ∷ []) → (os : List Kept) → objects_in (map one os) ≡ os
each_one one is [] = refl
each_one one is (o ∷ os) = ap (λ (xs : List Kept). xs ++ objects_in (map one os)) (is o) ∙ ap (λ (xs : List Kept). o ∷ xs) (each_one one is os)

prio_ones : (ms : List (ℕ × Kept)) → objects_in (map prio_piece ms) ≡ prio_objects ms
prio_ones [] = refl
prio_ones (m ∷ ms) = ap (λ (xs : List Kept). m.1 ∷ xs) (prio_ones ms)

slot_ones : (kind : FlowKind) (s : Option Report) → objects_in (slot_pieces kind s) ≡ slot_objects s
slot_ones kind None = refl
slot_ones kind (Some r) =
    objects_both (map (AckPiece kind r.flow) (as_list r.ack)) (map (RelPiece kind r.flow) r.rels)
    ∙ ap (λ (xs : List Kept). xs ++ objects_in (map (RelPiece kind r.flow) r.rels)) (each_one (AckPiece kind r.flow) (λ o. refl) (as_list r.ack))
    ∙ ap (λ (xs : List Kept). as_list r.ack ++ xs) (each_one (RelPiece kind r.flow) (λ o. refl) r.rels)

-- those of the two slots and of the Epoch object
abbrev pub end_objects : Contents → List Kept
end_objects s = slot_objects s.slot ++ (slot_objects s.paths ++ as_list s.epoch)

ends_are : (s : Contents)
    → objects_in (slot_pieces flows.Plain s.slot ++ (slot_pieces flows.Paths s.paths ++ map EpochPiece (as_list s.epoch))) ≡ end_objects s
ends_are s =
    let last = map EpochPiece (as_list s.epoch) in
    objects_both (slot_pieces flows.Plain s.slot) (slot_pieces flows.Paths s.paths ++ last)
    ∙ ap₂ (λ (xs ys : List Kept). xs ++ ys) (slot_ones flows.Plain s.slot)
    (objects_both (slot_pieces flows.Paths s.paths) last
    ∙ ap₂ (λ (xs ys : List Kept). xs ++ ys) (slot_ones flows.Paths s.paths) (each_one EpochPiece (λ o. refl) (as_list s.epoch)))

pub objects_are : (s : Contents) → objects_in (pieces_of s) ≡ s.weights ++ (prio_objects s.prios ++ end_objects s)
objects_are s =
    let later = slot_pieces flows.Plain s.slot ++ (slot_pieces flows.Paths s.paths ++ map EpochPiece (as_list s.epoch)) in
    objects_both (map WeightPiece s.weights) (PrioAckPiece s.prio_ack ∷ (map prio_piece s.prios ++ later))
    ∙ ap₂ (λ (xs ys : List Kept). xs ++ ys) (each_one WeightPiece (λ o. refl) s.weights)
    (objects_both (map prio_piece s.prios) later ∙ ap₂ (λ (xs ys : List Kept). xs ++ ys) (prio_ones s.prios) (ends_are s))

prios_in : (ms : List (ℕ × Kept)) → All IsOfBytes (prio_objects ms) → All IsNumberedOf ms
unfolding IsNumberedOf
prios_in [] all = All-nil IsNumberedOf
prios_in (m ∷ ms) all = All-cons IsNumberedOf m ms (All-head IsOfBytes m.1 (prio_objects ms) all) (prios_in ms (All-tail IsOfBytes m.1 (prio_objects ms) all))

prios_out : (ms : List (ℕ × Kept)) → All IsNumberedOf ms → All IsOfBytes (prio_objects ms)
unfolding IsNumberedOf
prios_out [] all = All-nil IsOfBytes
prios_out (m ∷ ms) all = All-cons IsOfBytes m.1 (prio_objects ms) (All-head IsNumberedOf m ms all) (prios_out ms (All-tail IsNumberedOf m ms all))

-- ---- the Epoch object, which format 1 lacks

epoch_in : (format : ℕ) (o : Option Kept) → All IsOfBytes (as_list o) → AreBytes (epoch_bytes format o)
unfolding epoch_bytes
epoch_in format o all = go (format == FORMAT_1) o all
  where
    go : (t : Bool) (o : Option Kept) → All IsOfBytes (as_list o) → AreBytes (later_bytes (object_bytes format) t o)
    go true o all = none
    go false None all = of_number 1 0
    go false (Some o) all = joined (big_bytes 1 1) (object_bytes format o) (of_number 1 1) (object_in format o (All-head IsOfBytes o [] all))

epoch_out : (format len : ℕ) (o : Option Kept) → IfSome o (Later format (IsObject format kinds.Epoch len)) → AreBytes (epoch_bytes format o)
    → All IsOfBytes (as_list o)
unfolding epoch_bytes
epoch_out format len None later are = All-nil IsOfBytes
epoch_out format len (Some o) later are = go (format == FORMAT_1) later.0 are
  where
    go : (t : Bool) → t ≡ false → AreBytes (later_bytes (object_bytes format) t (Some o)) → All IsOfBytes (o ∷ [])
    go true e are = absurd (cc)
    go false e are = All-cons IsOfBytes o [] (object_out format o (right (big_bytes 1 1) (object_bytes format o) are)) (All-nil IsOfBytes)

-- ---- the slot on paths, which it lacks too

paths_in : (format : ℕ) (s : Option Report) → All IsOfBytes (slot_objects s) → AreBytes (paths_bytes format s)
unfolding paths_bytes
paths_in format s all = go (format == FORMAT_1) s all
  where
    go : (t : Bool) (s : Option Report) → All IsOfBytes (slot_objects s) → AreBytes (later_bytes (report_bytes format) t s)
    go true s all = none
    go false None all = of_number 1 0
    go false (Some r) all = joined (big_bytes 1 1) (report_bytes format r) (of_number 1 1) (report_in format r all)

paths_out : (format len : ℕ) (s : Option Report) → IfSome s (Later format (IsReport format kinds.Kack kinds.Krel len)) → AreBytes (paths_bytes format s)
    → All IsOfBytes (slot_objects s)
unfolding paths_bytes
paths_out format len None later are = All-nil IsOfBytes
paths_out format len (Some r) later are = go (format == FORMAT_1) later.0 are
  where
    go : (t : Bool) → t ≡ false → AreBytes (later_bytes (report_bytes format) t (Some r)) → All IsOfBytes (slot_objects (Some r))
    go true e are = absurd (cc)
    go false e are = report_out format r (right (big_bytes 1 1) (report_bytes format r) are)

-- ---- a part that no node writes

no_probe : (format : ℕ) → AreBytes (probes_bytes format None)
unfolding probes_bytes
no_probe format = go (format == FORMAT_1)
  where
    go : (t : Bool) → AreBytes (later_bytes probe_bytes t None)
    go true = none
    go false = of_number 1 0

-- ---- all sections

pub sections_in : (format : ℕ) (s : Contents) → IsPlain s → AreOfBytes s → AreBytes (sections_bytes_in format s)
unfolding sections_bytes_in plain_bytes weights_bytes prios_bytes
sections_in format s plain of =
    let all = subst (All IsOfBytes) (objects_are s) of in
    let rest = all_right s.weights (prio_objects s.prios ++ end_objects s) all in
    let ends = all_right (prio_objects s.prios) (end_objects s) rest in
    let last = all_right (slot_objects s.slot) (slot_objects s.paths ++ as_list s.epoch) ends in
    let weights = weights_bytes format s.weights in
    let prios = prios_bytes format s.prios in
    let front = weights ++ big_bytes 8 s.prio_ack ++ prios ++ slot_bytes format s.slot in
    let paths = paths_bytes format s.paths in
    let probe = probes_bytes format s.probe in
    let front_are : AreBytes front = joined4 weights (big_bytes 8 s.prio_ack) prios (slot_bytes format s.slot)
    (counted_in IsOfBytes (object_bytes format) (object_in format) s.weights (all_left s.weights (prio_objects s.prios ++ end_objects s) all))
    (of_number 8 s.prio_ack)
    (counted_in IsNumberedOf (numbered_bytes format) (numbered_in format) s.prios
    (prios_in s.prios (all_left (prio_objects s.prios) (end_objects s) rest)))
    (slot_in format s.slot (all_left (slot_objects s.slot) (slot_objects s.paths ++ as_list s.epoch) ends)) in
    let paths_are = paths_in format s.paths (all_left (slot_objects s.paths) (as_list s.epoch) last) in
    let probe_are = subst (λ (o : Option Probe). AreBytes (probes_bytes format o)) (sym plain.probe) (no_probe format) in
    let epoch_are = epoch_in format s.epoch (all_right (slot_objects s.paths) (as_list s.epoch) last) in
    subst (λ (d : Option (List ℕ)). AreBytes (control_bytes format s d)) (sym plain.document)
    (joined (front ++ paths ++ probe) (epoch_bytes format s.epoch) (joined (front ++ paths) probe (joined front paths front_are paths_are) probe_are) epoch_are)

plain_out : (format len : ℕ) (s : Contents) → IsContentsIn format len s → AreBytes (plain_bytes format s) → AreOfBytes s
unfolding plain_bytes weights_bytes prios_bytes
plain_out format len s is are =
    let weights = weights_bytes format s.weights in
    let prios = prios_bytes format s.prios in
    let slot = slot_bytes format s.slot in
    let front = weights ++ big_bytes 8 s.prio_ack ++ prios ++ slot in
    let paths = paths_bytes format s.paths in
    let probe = probes_bytes format s.probe in
    let last = right (front ++ paths ++ probe) (epoch_bytes format s.epoch) are in
    let with_paths = left (front ++ paths) probe (left (front ++ paths ++ probe) (epoch_bytes format s.epoch) are) in
    let parts = parts4 weights (big_bytes 8 s.prio_ack) prios slot (left front paths with_paths) in
    subst (All IsOfBytes) (sym (objects_are s))
    (All-append IsOfBytes s.weights (prio_objects s.prios ++ end_objects s)
    (counted_out IsOfBytes (object_bytes format) (object_out format) s.weights parts.0)
    (All-append IsOfBytes (prio_objects s.prios) (end_objects s)
    (prios_out s.prios (counted_out IsNumberedOf (numbered_bytes format) (numbered_out format) s.prios parts.2))
    (All-append IsOfBytes (slot_objects s.slot) (slot_objects s.paths ++ as_list s.epoch) (slot_out format s.slot parts.3)
    (All-append IsOfBytes (slot_objects s.paths) (as_list s.epoch) (paths_out format len s.paths is.paths (right front paths with_paths))
    (epoch_out format len s.epoch is.epoch last)))))

-- a document comes alone
pub sections_out : (format len : ℕ) (s : Contents) → IsContentsIn format len s → AreBytes (sections_bytes_in format s) → AreOfBytes s
unfolding sections_bytes_in
sections_out format len s is are = go s.document refl is.document are
  where
    go : (d : Option (List ℕ)) → s.document ≡ d → IfSome d (Later format (IsDocument s)) → AreBytes (control_bytes format s d) → AreOfBytes s
    go None alone later are = plain_out format len s is are
    go (Some document) some later are = subst AreOfBytes (sym later.1.alone) (All-nil IsOfBytes)

-- a document alone
pub document_in : (format : ℕ) (document : List ℕ) → AreBytes document → AreBytes (sections_bytes_in format (with_document document))
unfolding sections_bytes_in document_bytes sized_bytes zeros_bytes
document_in format document are =
    let eight = big_bytes 8 0 in
    let one = big_bytes 1 0 in
    one_first 128 (document_bytes document) (omega arith)
    (joined (big_bytes 2 (length document) ++ document) (zeros_bytes 0)
    (joined (big_bytes 2 (length document)) document (of_number 2 (length document)) are)
    (joined (eight ++ one ++ one ++ one ++ one) one (joined (eight ++ one ++ one ++ one) one
    (joined4 eight one one one (of_number 8 0) (of_number 1 0) (of_number 1 0) (of_number 1 0)) (of_number 1 0)) (of_number 1 0)))

-- ---- heads

-- a frame's name
name : List ℕ
name = big_bytes 2 21321

pub head_are : (h : Head) → AreBytes (head_bytes h)
unfolding head_bytes ends_bytes numbers_bytes name
head_are h =
    joined (ends_bytes h) (numbers_bytes h)
    (joined4 name (big_bytes 1 h.format) (big_bytes 1 h.from.0) (big_bytes 1 h.to.0)
    (of_number 2 21321) (of_number 1 h.format) (of_number 1 h.from.0) (of_number 1 h.to.0))
    (joined4 (big_bytes 8 h.boot) (big_bytes 8 h.echo) (big_bytes 8 h.counter) (big_bytes 4 h.topology)
    (of_number 8 h.boot) (of_number 8 h.echo) (of_number 8 h.counter) (of_number 4 h.topology))
