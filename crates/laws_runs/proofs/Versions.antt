-- The versions of the topology over a run: each that a node runs under was handed out, and a later one follows an earlier one.
use Rattle.std.proofs.Common.{◌≡◌, ◌≢◌, ◌<◌, ◌≤◌, ℕ, ◌==◌, Bool, true, false, cond, List, [], ◌∷◌, ◌++◌, length, Option, Some, None, refl, sym, ap, subst, ◌∙◌}
use Rattle.std.proofs.Common.{inr, arith}
use Rattle.std.specs.Prelude.{IsTrue, max, not, nat_le, nat_lt}
use Rattle.std.specs.Cmp.Lexicographic.{pointwise}
use Rattle.std.specs.List.{list_any}
use Rattle.std.proofs.lemmas.Bool.{eq-eqb}
use Rattle.std.proofs.lemmas.Bool.Decides.{nat_tests}
use Rattle.sp_base.specs.declared.id.NodeId.{NodeId}
use Rattle.sp_frame.specs.Sections.{with_document}
use Rattle.sp_rules.specs.Arts.{Arts, Document}
use Rattle.sp_rules.specs.Documents.{answer_to, document_answer}
use Rattle.sp_rules.specs.Node.{NodeState, is_behind, is_shut_to, topology_now, version_of}
use Rattle.sp_rules.specs.Parts.{Fixed, changes}
use Rattle.sp_rules.specs.Polls.{contents_at, contents_to, frame_to, no_contents}
use Rattle.sp_rules.specs.Topologies.{has_same_ends, is_same_height, is_same_node, returns, succeeds, under}
use Rattle.sp_rules.specs.declared.answers.DocumentAnswer.TheVariants as answers
use Rattle.sp_topology.specs.declared.topology.Edge.{Edge}
use Rattle.sp_topology.specs.declared.topology.LmsHeight.{LmsHeight}
use Rattle.sp_topology.specs.declared.topology.LmsHeight.TheVariants as heights
use Rattle.sp_topology.specs.declared.topology.NodeKey.{NodeKey}
use Rattle.sp_topology.specs.declared.topology.Topology.{Topology}
use Rattle.laws_node.proofs.Spreading.{offers_are_taken}
use Rattle.sp_msg.specs.declared.kept.Kept.{Kept}
use Rattle.sp_runs.specs.Forgery.{lists_in}
use Rattle.sp_runs.specs.Journals.{replaced_word}
use Rattle.sp_runs.specs.Runs.{AreFields}
use Rattle.sp_runs.specs.Inputs.{handed_out}
use Rattle.sp_runs.specs.Settings as settings
use Rattle.sp_runs.specs.Settings.{Setting, SettingFits, may_change}
use Rattle.sp_schedule_events.proofs.PublishedLemmas.{published_more}
use Rattle.sp_schedule_events.specs.Documents.{published, with_list}
use Rattle.sp_schedule_events.specs.declared.event.Event.{Event}
use Rattle.sp_schedule_events.specs.declared.event.Event.TheVariants as events
use Rattle.sp_schedule_events.specs.declared.published.Published.{Published}
use Rattle.laws_runs.specs.Signs.{Good, NodeIs}
use Rattle.laws_runs.specs.Versions.{DocumentsAreHeld, DocumentsSpread, FramesBringPublished, IsPublished, LaterVersionsFollow, ListsStand, NoneReturns}
use Rattle.laws_runs.specs.Versions.{VersionsArePublished}
use Rattle.laws_runs.proofs.Lists.{same_bytes}
use Rattle.laws_runs.proofs.Published.{hands_out, later_stays, lists_on, publishes, still_published}
use Rattle.laws_runs.proofs.Signed.{of_setting, signs}
use Rattle.laws_runs.proofs.SignedEvents.{frame_back}

-- ---- what each correct node runs under

pub versions_are_published : VersionsArePublished
versions_are_published arts x es js w fits reads run u n at = ((signs arts x es js w fits reads run).live u n at).published

pub documents_are_held : DocumentsAreHeld
documents_are_held arts x es js w fits reads may run u n at = ((signs arts x es js w fits reads run).live u n at).held may

pub frames_bring_published : FramesBringPublished
frames_bring_published arts x es js w fits reads run u v place bytes s at read = (signs arts x es js w fits reads run).documents u v place bytes s at read

-- ---- which version follows which

height_is : (h : LmsHeight) → is_same_height h h ≡ true
height_is heights.Five = refl
height_is heights.Ten = refl

nodes_are : (nodes : List NodeKey) → pointwise is_same_node nodes nodes ≡ true
nodes_are [] = refl
nodes_are (n ∷ nodes) = let one : (n.id.0 == n.id.0) ≡ true = eq-eqb n.id.0 n.id.0 refl in rw (one, same_bytes n.key, nodes_are nodes) refl

ends_are : (edges : List Edge) (old new : List ℕ) → length old ≡ length edges → length new ≡ length edges
    → pointwise has_same_ends (under edges old) (under edges new) ≡ true
ends_are [] old new p q = refl
ends_are (e ∷ edges) [] new p q = absurd (omega (arith, p))
ends_are (e ∷ edges) (a ∷ old) [] p q = absurd (omega (arith, q))
ends_are (e ∷ edges) (a ∷ old) (b ∷ new) p q =
    let low : (e.low.0 == e.low.0) ≡ true = eq-eqb e.low.0 e.low.0 refl in
    let high : (e.high.0 == e.high.0) ≡ true = eq-eqb e.high.0 e.high.0 refl in
    rw (low, high, ends_are edges old new (omega (arith, p)) (omega (arith, q))) refl

none_returns : (x : Setting) (old new : List ℕ) → NoneReturns x old new → (nodes : List NodeKey)
    → list_any (returns (under x.topology.edges old) (under x.topology.edges new)) nodes ≡ false
none_returns x old new none [] = refl
none_returns x old new none (n ∷ nodes) = rw (none n.id.0, none_returns x old new none nodes) refl

-- one with a higher version and such weights follows
version_follows : (x : Setting) (a b : ℕ) (old new : List ℕ) → length old ≡ length x.topology.edges → length new ≡ length x.topology.edges
    → a < b → NoneReturns x old new → IsTrue (succeeds (settings.version_of x a old) (settings.version_of x b new))
version_follows x a b old new long wide less none =
    let above : nat_lt a b ≡ true = grind (arith, nat_tests, less) in
    let format : (x.topology.format == x.topology.format) ≡ true = eq-eqb x.topology.format x.topology.format refl in
    rw (
      above,
      format,
      height_is x.topology.height,
      nodes_are x.topology.nodes,
      ends_are x.topology.edges old new long wide,
      none_returns x old new none x.topology.nodes,
    ) refl

-- the topology of a node of the setting
now_is : (x : Setting) (P : Kept → Type 0) (u : NodeId) (n : NodeState) → NodeIs x P u n
    → topology_now n ≡ settings.version_of x n.live.version n.live.weights
now_is x P u n is =
    ap (λ (f : Fixed). record f.topology { version = n.live.version; edges = under f.topology.edges n.live.weights }) is.fixed

-- a later version that was handed out follows what a node runs under
pub follows_node : (arts : Arts) (x : Setting) (es : List Event) (P : Kept → Type 0) (u : NodeId) (n : NodeState) (version : ℕ) (weights : List ℕ)
    → SettingFits arts x → ListsStand x (lists_in es) → NodeIs x P u n → IsPublished x es n.live.version n.live.weights
    → IsPublished x es version weights → length weights ≡ length x.topology.edges → n.live.version < version
    → IsTrue (succeeds (topology_now n) (settings.version_of x version weights))
follows_node arts x es P u n version weights fits lists is one two wide less =
    subst (λ (t : Topology). IsTrue (succeeds t (settings.version_of x version weights))) (sym (now_is x P u n is))
    (version_follows x n.live.version version n.live.weights weights (of_setting x P u n is).2 wide less
    (later_stays arts x es n.live.version version n.live.weights weights fits lists one two less))

pub later_versions_follow : LaterVersionsFollow
later_versions_follow arts x es js w fits reads run u v n m at there less =
    let h = signs arts x es js w fits reads run in
    let P = Good arts x es js in
    let is = h.nodes v m there in
    subst (λ (t : Topology). IsTrue (succeeds (topology_now n) t)) (sym (now_is x P v m is))
    (follows_node arts x es P u n m.live.version m.live.weights fits h.lists (h.nodes u n at) (h.live u n at).published (h.live v m there).published
    (of_setting x P v m is).2 less)

-- ---- a document goes over a hop

-- what stands in turn for a neighbour that is behind is the document
offered : (n : NodeState) (v : NodeId) → changes n.fixed ≡ true → 1 ≤ version_of n v → version_of n v < n.live.version
    → (contents_at n v).document ≡ Some n.live.document
offered n v may known less =
    let one : nat_lt 0 (version_of n v) ≡ true = grind (arith, nat_tests, known) in
    let two : nat_lt (version_of n v) n.live.version ≡ true = grind (arith, nat_tests, less) in
    let behind : is_behind n v ≡ true = rw (may, one, two) refl in
    ap (λ (t : Bool). (cond t (with_document n.live.document) (cond (is_shut_to n v) no_contents (contents_to n.fixed n.parts v))).document) behind

pub documents_spread : DocumentsSpread
documents_spread arts x es js w more ks y fits reads may run later u v n m at there known less called opened begins fresh =
    let h = signs arts x es js w fits reads run in
    let g = signs arts x (es ++ more) (js ++ ks) y fits reads later in
    let P = Good arts x es js in
    let Q = Good arts x (es ++ more) (js ++ ks) in
    let is = h.nodes u n at in
    let its = g.nodes v m there in
    let held = (h.live u n at).held may in
    let bytes = frame_to arts n v in
    let version : held.document.topology.version ≡ n.live.version = ap (λ (t : Topology). t.version) held.topology in
    offers_are_taken arts m u bytes n.live.document held.document (record {
      called = called;
      opened = opened;
      fresh = fresh;
      begins = begins;
      contents = contents_at n v;
      sections = ap (λ (f : Fixed). arts.sections f.signature_len bytes) its.fixed ∙ frame_back arts x P (λ o is_it. is_it.good) n u v reads is;
      carried = offered n v (ap changes is.fixed ∙ may) known less;
      reads = held.reads;
      signed = subst (λ (key : List ℕ). IsTrue (arts.valid key held.document.message held.document.signature)) (sym (of_setting x Q v m its).1) held.signed;
      follows = λ below. subst (λ (t : Topology). IsTrue (succeeds (topology_now m) t)) (sym held.topology)
          (follows_node arts x (es ++ more) Q v m n.live.version n.live.weights fits g.lists its (g.live v m there).published
          (still_published x es more n.live.version n.live.weights (h.live u n at).published) (of_setting x P u n is).2 (omega (arith, below, version)));
    }) ∙ ap (max m.live.version) version

-- ---- what is handed out is never refused

-- a signed document that follows the topology of a node where it is above it is adopted, or is old
taken_words : (arts : Arts) (n : NodeState) (d : Document) → IsTrue (arts.valid n.fixed.admin d.message d.signature)
    → (n.live.version < d.topology.version → IsTrue (succeeds (topology_now n) d.topology)) → replaced_word (answer_to arts n (Some d)) ≢ None
taken_words arts n d signed follows =
    go (nat_le d.topology.version n.live.version) (arts.valid n.fixed.admin d.message d.signature) signed (succeeds (topology_now n) d.topology)
    (λ above. follows (grind (arith, nat_tests, above))) refl
  where
    some : {X : Type 0} (y : X) → Some y ≡ None → ⊥
    some y e = cc

    go : (a : Bool) (b : Bool) → b ≡ true → (c : Bool) → (nat_le d.topology.version n.live.version ≡ false → c ≡ true)
        → nat_le d.topology.version n.live.version ≡ a
        → replaced_word (cond a (answers.Old n.live.version) (cond (not b) answers.BadSig (cond (not c) answers.Strange (answers.Adopted d.topology.version))))
        ≢ None
    go true b valid c follows is = some _
    go false true valid true follows is = some _
    go false true valid false follows is = absurd (let wrong : false ≡ true = follows is in cc)
    go false false valid c follows is = absurd (let wrong : false ≡ true = valid in cc)

pub published_words : (arts : Arts) (x : Setting) (es : List Event) (P : Kept → Type 0) (u : NodeId) (n : NodeState) (last : Published) (by : NodeId)
    (weights : Option (List ℕ)) → SettingFits arts x → ListsStand x (lists_in es) → NodeIs x P u n → IsPublished x es n.live.version n.live.weights
    → last ≡ published es → AreFields x es (events.Publish by weights)
    → replaced_word (document_answer arts n (handed_out x (with_list last weights))) ≢ None
published_words arts x es P u n last by weights fits lists is runs same range =
    let e = events.Publish by weights in
    let more = es ++ e ∷ [] in
    let stand = lists_on x es e range lists in
    let out = hands_out arts x more fits stand (publishes x es by weights range) in
    let read : arts.read_document (handed_out x (with_list last weights)) ≡ Some out.reads.document =
    ap (λ (p : Published). arts.read_document (handed_out x p)) (published_more es last e same) ∙ ap arts.read_document out.bytes_are ∙ out.reads.reads in
    let version : out.reads.document.topology.version ≡ out.version = ap (λ (t : Topology). t.version) out.reads.topology in
    let signed : IsTrue (arts.valid n.fixed.admin out.reads.document.message out.reads.document.signature) =
    subst (λ (key : List ℕ). IsTrue (arts.valid key out.reads.document.message out.reads.document.signature)) (sym (of_setting x P u n is).1)
    out.reads.signed in
    subst (λ (o : Option Document). replaced_word (answer_to arts n o) ≢ None) (sym read)
    (taken_words arts n out.reads.document signed
    (λ less. subst (λ (t : Topology). IsTrue (succeeds (topology_now n) t)) (sym out.reads.topology)
    (follows_node arts x more P u n out.version out.weights fits stand is (still_published x es (e ∷ []) n.live.version n.live.weights runs)
    (inr out.published) out.are.0 (omega (arith, less, version)))))
