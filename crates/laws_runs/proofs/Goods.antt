-- What is new and what is own is known, valid, of bytes and good; and each node at its start.
use Rattle.sp_base.specs.Cursor.{or_else}
use Rattle.laws_node.proofs.Withdrawing.{booted_obeys}
use Rattle.sp_rules.specs.Topologies.{removed_of, weights_in}
use Rattle.std.proofs.Common.{◌≡◌, ℕ, Bool, true, false, cond, eqb, List, [], ◌∷◌, ◌++◌, length, map, filter, Option, Some, None, refl, sym, ap, subst, ◌∙◌}
use Rattle.std.proofs.Common.{inl, inr, arith}
use Rattle.std.specs.Prelude.{◌&&◌, not, IsTrue, option_map}
use Rattle.std.specs.List.{All, flat_map}
use Rattle.std.proofs.lemmas.Bool.{cases_Bool, eq-eqb, eqb-true}
use Rattle.std.proofs.lemmas.List.Concat.{flat_map-append}
use Rattle.std.proofs.lemmas.List.Elements.{All-append, All-cons, All-head, All-nil, All-tail}
use Rattle.sp_base.specs.declared.id.NodeId.{NodeId}
use Rattle.sp_msg.specs.Views.{signer_of}
use Rattle.sp_msg.specs.declared.body.Body.{Body}
use Rattle.sp_msg.specs.declared.effect.Effect.{Effect}
use Rattle.sp_msg.specs.declared.effect.Effect.TheVariants.{Signed}
use Rattle.sp_msg.specs.declared.kept.Kept.{Kept}
use Rattle.sp_rules.specs.Arrivals.{pieces_where, pieces_beside}
use Rattle.sp_rules.specs.Arts.{Arts}
use Rattle.sp_rules.specs.Lives.{start}
use Rattle.sp_rules.specs.Node.{NodeState, Signer}
use Rattle.sp_rules.specs.Parts.{Fixed, bare_parts, is_signed, nodes_of}
use Rattle.sp_rules.specs.Pieces.{Piece, WeightPiece, PrioAckPiece, PrioPiece, ReportPiece, AckPiece, RelPiece, EpochPiece}
use Rattle.sp_rules.specs.declared.answers.Item.{Item}
use Rattle.sp_rules.specs.declared.node.LinkReply.{LinkReply}
use Rattle.sp_rules.specs.declared.node.LinkReply.TheVariants as links
use Rattle.laws_node.specs.Inputs.{ArtsFit}
use Rattle.laws_node.specs.Objects.{objects_in, objects_of}
use Rattle.laws_node.specs.Asked.{IsOwn, NewKeep}
use Rattle.laws_node.proofs.Boot.{boot_holds, nodes_hold}
use Rattle.laws_node.proofs.Carried.{AllKeep, PieceKeeps}
use Rattle.laws_node.proofs.Reliable.{in_range}
use Rattle.laws_node.proofs.Shapes.{shapes_begin}
use Rattle.sp_runs.specs.Forgery.{forged_object, is_among, is_forged}
use Rattle.sp_runs.specs.Inputs.{acting}
use Rattle.sp_runs.specs.Runs.{Move}
use Rattle.sp_runs.specs.Settings.{Setting, SettingFits, first_signer, fixed_at, fixed_of, is_correct, link_keys, node_at_boot}
use Rattle.sp_runs.specs.Told.{signed, signed_by, told_at}
use Rattle.sp_runs.specs.Worlds.{World, at_start, node_in}
use Rattle.sp_journal.specs.declared.entry.Entry.{Entry}
use Rattle.sp_schedule_events.specs.declared.event.Event.{Event}
use Rattle.sp_runs.specs.declared.what.What.TheVariants as whats
use Rattle.laws_runs.specs.Signs.{Good, Known, NodeIs}
use Rattle.laws_runs.specs.Premises.{IsOfBytes}
use Rattle.laws_runs.proofs.Acks.{bare_acks}
use Rattle.laws_runs.proofs.Dated.{closed_dated, bare_dated}
use Rattle.laws_runs.proofs.Unborn.{none_at_start, unborn_of}
use Rattle.laws_runs.proofs.Lists.{among_left, among_right, both, first_among, told_more}
use Rattle.laws_runs.proofs.Tables.{same_node}

-- ---- pieces, and their objects

-- what all pieces keep holds of all objects among them
pub all_of : (P : Kept → Type 0) (pieces : List Piece) → AllKeep P pieces → All P (objects_in pieces)
all_of P [] h = All-nil P
all_of P (piece ∷ pieces) h = All-append P (objects_of piece) (objects_in pieces) (one piece h.0) (all_of P pieces h.1)
  where
    one : (p : Piece) → PieceKeeps P p → All P (objects_of p)
    one (WeightPiece o) h = All-cons P o [] h (All-nil P)
    one (PrioAckPiece number) h = All-nil P
    one (PrioPiece number o) h = All-cons P o [] h (All-nil P)
    one (ReportPiece kind flow sboot dboot base have) h = All-nil P
    one (AckPiece kind flow o) h = All-cons P o [] h (All-nil P)
    one (RelPiece kind flow o) h = All-cons P o [] h (All-nil P)
    one (EpochPiece o) h = All-cons P o [] h (All-nil P)

-- what holds of all objects among pieces all of these keep
pub of_all : (P : Kept → Type 0) (pieces : List Piece) → All P (objects_in pieces) → AllKeep P pieces
of_all P [] h = tt
of_all P (WeightPiece o ∷ pieces) h = (All-head P o (objects_in pieces) h, of_all P pieces (All-tail P o (objects_in pieces) h))
of_all P (PrioAckPiece number ∷ pieces) h = (tt, of_all P pieces h)
of_all P (PrioPiece number o ∷ pieces) h = (All-head P o (objects_in pieces) h, of_all P pieces (All-tail P o (objects_in pieces) h))
of_all P (ReportPiece kind flow sboot dboot base have ∷ pieces) h = (tt, of_all P pieces h)
of_all P (AckPiece kind flow o ∷ pieces) h = (All-head P o (objects_in pieces) h, of_all P pieces (All-tail P o (objects_in pieces) h))
of_all P (RelPiece kind flow o ∷ pieces) h = (All-head P o (objects_in pieces) h, of_all P pieces (All-tail P o (objects_in pieces) h))
of_all P (EpochPiece o ∷ pieces) h = (All-head P o (objects_in pieces) h, of_all P pieces (All-tail P o (objects_in pieces) h))

pub where_keep : (P : Kept → Type 0) (reply : LinkReply) (pieces : List Piece) → AllKeep P pieces → AllKeep P (pieces_where reply pieces)
where_keep P links.Fresh pieces h = h
where_keep P links.TooLong pieces h = tt
where_keep P (links.Short short) pieces h = tt
where_keep P links.Magic pieces h = tt
where_keep P links.Version pieces h = tt
where_keep P links.NotForMe pieces h = tt
where_keep P links.BadTag pieces h = tt
where_keep P (links.Learned boot) pieces h = tt
where_keep P (links.Stale boot counter) pieces h = tt
where_keep P (links.OtherTopology theirs) pieces h = tt
where_keep P (links.Section refused) pieces h = tt
where_keep P links.Withdrawn pieces h = tt

-- none beside a document
pub beside_keep : (P : Kept → Type 0) (document : Option (List ℕ)) (pieces : List Piece) → AllKeep P pieces → AllKeep P (pieces_beside document pieces)
beside_keep P None pieces h = h
beside_keep P (Some document) pieces h = tt

-- ---- what isn't forged is known

-- neither the tag, nor an object, nor a document
pub unforged_both : (t : Bool) (o d : Option (List ℕ)) → cond t (Some whats.Tag) (option_map whats.Object (or_else o d)) ≡ None
    → (t ≡ false) × (o ≡ None) × (d ≡ None)
unforged_both true o d e = absurd cc
unforged_both false None None e = (refl, refl, refl)
unforged_both false None (Some bytes) e = absurd cc
unforged_both false (Some bytes) d e = absurd cc

not_forged : (a b c : Bool) → (a && b && not c) ≡ false → a ≡ true → b ≡ true → c ≡ true
not_forged true true true e one two = refl
not_forged true true false e one two = absurd cc
not_forged true false c e one two = absurd cc
not_forged false b c e one two = absurd cc

pub new_known : (arts : Arts) (x : Setting) (es : List Event) (js : List Entry) (answered : List (Kept × Item)) → forged_object arts x es js answered ≡ None
    → NewKeep (Known arts x es js) answered
new_known arts x es js [] e = tt
new_known arts x es js (a ∷ others) e = elim (cases_Bool (is_forged arts x es js a)) [
  | inl t ↦ absurd (let f : Some (arts.spell a.0.body) ≡ None = rw t at e in cc)
  | inr t ↦ (λ new correct. not_forged _ _ _ t new correct, new_known arts x es js others (rw t at e))
]

pub good_new : (arts : Arts) (x : Setting) (es : List Event) (js : List Entry) (answered : List (Kept × Item)) → NewKeep (Known arts x es js) answered
    → NewKeep (λ o. IsTrue
    (is_signed arts (record { me = record { 0 = 0 }; boot = 0; topology = x.topology; document = []; signature_len = 0; admin = []; epochs = false }) o))
    answered
    → NewKeep IsOfBytes answered → NewKeep (λ o. IsTrue (arts.is_good o.body)) answered → NewKeep (Good arts x es js) answered
good_new arts x es js [] one two three four = tt
good_new arts x es js (a ∷ others) one two three four =
    (λ new. record { known = one.0 new; right = two.0 new; bytes = three.0 new; good = four.0 new }, good_new arts x es js others one.1 two.1 three.1 four.1)

pub new_less : (P Q : Kept → Type 0) → ((o : Kept) → P o → Q o) → (answered : List (Kept × Item)) → NewKeep P answered → NewKeep Q answered
new_less P Q less [] h = tt
new_less P Q less (a ∷ others) h = (λ new. less a.0 (h.0 new), new_less P Q less others h.1)

-- ---- what was signed stays signed

known_more : (arts : Arts) (x : Setting) (es : List Event) (js : List Entry) (e : Event) (j : Entry) → length es ≡ length js → (o : Kept) → Known arts x es js o
    → Known arts x (es ++ e ∷ []) (js ++ j ∷ []) o
known_more arts x es js e j even o h = λ correct.
    subst (λ these. is_among (arts.spell o.body) these ≡ true) (sym (told_more (told_at (signer_of o.body) signed_by) es js e j even))
    (among_left (arts.spell o.body) (signed es js (signer_of o.body)) _ (h correct))

pub good_more : (arts : Arts) (x : Setting) (es : List Event) (js : List Entry) (e : Event) (j : Entry) → length es ≡ length js → (o : Kept)
    → Good arts x es js o
    → Good arts x (es ++ e ∷ []) (js ++ j ∷ []) o
good_more arts x es js e j even o h = record { known = known_more arts x es js e j even o h.known; right = h.right; bytes = h.bytes; good = h.good }

-- what a step signs
signs_it : (effects before after : List Effect) (bytes : List ℕ) → effects ≡ before ++ Signed bytes ∷ after → is_among bytes (flat_map signed_by effects) ≡ true
signs_it effects before after bytes e =
    subst (λ (these : List (List ℕ)). is_among bytes these ≡ true)
    (sym (ap (flat_map signed_by) e ∙ flat_map-append signed_by before (Signed bytes ∷ after)))
    (among_right bytes (flat_map signed_by before) (bytes ∷ flat_map signed_by after) (first_among bytes (flat_map signed_by after)))

pub own_known : (arts : Arts) (x : Setting) (es : List Event) (js : List Entry) (w new : World) (e : Event) (j : Entry) (m : Move arts x w e j new)
    → length es ≡ length js → m.node.fixed.me ≡ acting e → (index : ℕ) (body : Body) → IsOwn arts m.node m.input m.output.effects index body
    → is_among (arts.spell body) (signed (es ++ e ∷ []) (js ++ j ∷ []) (signer_of body)) ≡ true
own_known arts x es js w new e j m even me index body own =
    let who : signer_of body ≡ acting e = own.mine ∙ me in
    let here : eqb (acting e).0 (signer_of body).0 ≡ true = eq-eqb _ _ (ap (λ (u : NodeId). u.0) (sym who)) in
    let all : is_among (arts.spell body) (flat_map signed_by j.effects) ≡ true =
    subst (λ es2. is_among (arts.spell body) (flat_map signed_by es2) ≡ true) (sym m.journal.effects)
    (signs_it m.output.effects own.before own.after (arts.spell body) own.told) in
    subst (λ these. is_among (arts.spell body) these ≡ true) (sym (told_more (told_at (signer_of body) signed_by) es js e j even))
    (among_right (arts.spell body) (signed es js (signer_of body)) _ (rw here all))

-- ---- the arts fit each node

-- in each life, and with any indexes
pub fit_in : (arts : Arts) (x : Setting) (u : NodeId) (boot : ℕ) (t : Signer) → t.seed ≡ x.seed u.0 → t.total ≡ x.total
    → ArtsFit arts (fixed_of x u) (first_signer x u)
    → ArtsFit arts (fixed_at x u boot) t
fit_in arts x u boot t seed total h = record {
  long = rw seed h.long;
  key = h.key;
  is_mine = h.is_mine;
  valid = rw (seed, total) h.valid;
  heads = h.heads;
  sections = h.sections;
  own = h.own;
  documents = h.documents;
  carried = h.carried;
}

pub arts_fit : (arts : Arts) (x : Setting) (P : Kept → Type 0) (u : NodeId) (n : NodeState) → SettingFits arts x → NodeIs x P u n
    → ArtsFit arts n.fixed n.signer
arts_fit arts x P u n fits is =
    subst (λ (f : Fixed). ArtsFit arts f n.signer) (sym is.fixed)
    (fit_in arts x u n.fixed.boot n.signer is.seed is.total (fits.each u is.correct))

-- ---- the start

pub started : (x : Setting) (us : List NodeId) (u : NodeId) (n : NodeState) → node_in (map (node_at_boot x) (filter (is_correct x) us)) u ≡ Some n
    → (n ≡ node_at_boot x u) × (is_correct x u ≡ true)
started x [] u n e = absurd cc
started x (v ∷ us) u n e = elim (cases_Bool (is_correct x v)) [
  | inl right ↦
      let e1 : node_in (node_at_boot x v ∷ map (node_at_boot x) (filter (is_correct x) us)) u ≡ Some n = rw right at e in
      elim (cases_Bool (eqb v.0 u.0)) [
        | inl t ↦
            let f : Some (node_at_boot x v) ≡ Some n = rw t at e1 in
            let g : node_at_boot x v ≡ n = cc in
            let is : v ≡ u = same_node v u (eqb-true _ _ t) in
            (sym g ∙ ap (node_at_boot x) is, subst (λ (y : NodeId). is_correct x y ≡ true) is right)
        | inr t ↦ started x us u n (rw t at e1)
      ]
  | inr wrong ↦ started x us u n (rw wrong at e)
]

-- without epochs
pub plain_start : (x : Setting) (u : NodeId) (n : NodeState) → node_in (at_start x).nodes u ≡ Some n
    → (x.epochs ≡ false) × (node_in (map (node_at_boot x) (filter (is_correct x) (nodes_of x.topology))) u ≡ Some n)
plain_start x u n at = go x.epochs refl at
  where
    go : (on : Bool) → x.epochs ≡ on → node_in (cond on [] (map (node_at_boot x) (filter (is_correct x) (nodes_of x.topology)))) u ≡ Some n
        → (x.epochs ≡ false) × (node_in (map (node_at_boot x) (filter (is_correct x) (nodes_of x.topology))) u ≡ Some n)
    go true on e = absurd cc
    go false off e = (off, e)

pub starts : (arts : Arts) (x : Setting) (P : Kept → Type 0) → SettingFits arts x → (u : NodeId) (n : NodeState) → node_in (at_start x).nodes u ≡ Some n
    → NodeIs x P u n
starts arts x P fits u n e =
    let at = plain_start x u n e in
    let is = started x (nodes_of x.topology) u n at.1 in
    let among = (both _ _ is.1).0 in
    let dated_parts =
    closed_dated (bare_parts (fixed_of x u) x.buffer x.store) (weights_in x.topology.edges) (removed_of (nodes_of x.topology) x.topology.edges)
    (bare_dated (fixed_of x u) x.buffer x.store (start (nodes_of x.topology))) in
    subst (NodeIs x P u) (sym is.0) (record {
      correct = is.1;
      fixed = refl;
      seed = refl;
      total = refl;
      shape = shapes_begin (fixed_of x u) (first_signer x u) (link_keys x u) x.buffer x.store;
      holds = boot_holds P (fixed_of x u) (first_signer x u) (link_keys x u) x.buffer x.store (record {
        me = in_range x.topology.format (nodes_of x.topology) u (nodes_hold x.topology.format x.topology.height 0 x.topology.nodes fits.topology.ranges.nodes)
            among;
        boot = omega arith;
        topology = fits.topology;
        short = fits.short;
        document = fits.room x.topology.version (weights_in x.topology.edges);
        signer = record { index = omega arith; bound = omega arith; total = fits.total };
      });
      acks = bare_acks (fixed_of x u) x.buffer x.store;
      obeys = booted_obeys (fixed_of x u) (first_signer x u) (link_keys x u) x.buffer x.store;
      dated = dated_parts;
      plain = λ off. record {
        first = refl;
        whole = refl;
        unborn = unborn_of (node_at_boot x u).parts (none_at_start (nodes_of x.topology)) dated_parts;
      };
    })
