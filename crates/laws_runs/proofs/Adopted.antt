-- What a step makes of the version that its node runs under: it stays, or the administrator's document came by hand or in a frame. And what forges
-- nothing by a document.
use Rattle.std.proofs.Common.{◌≡◌, ◌≤◌, ℕ, Bool, true, false, cond, not, List, [], ◌∷◌, ◌++◌, length, Option, Some, None, refl, sym, ap, subst, ◌∙◌}
use Rattle.std.proofs.Common.{inl, inr, arith}
use Rattle.std.specs.Prelude.{◌⊎◌, IsTrue, is_some, nat_le, nat_lt, unwrap_or}
use Rattle.std.proofs.lemmas.Bool.Decides.{nat_tests}
use Rattle.std.proofs.lemmas.List.{length-map}
use Rattle.sp_base.specs.declared.id.NodeId.{NodeId}
use Rattle.sp_frame.specs.Sections.{with_document}
use Rattle.sp_msg.specs.declared.body.Ack.{Ack}
use Rattle.sp_msg.specs.declared.refused.SendRefused.{SendRefused}
use Rattle.sp_rules.specs.Arrivals.{before_document, document_at, document_where, read_by}
use Rattle.sp_rules.specs.Arts.{Arts, Document}
use Rattle.sp_rules.specs.Documents.{adopted_where, adopting, answer_to, document_answer}
use Rattle.sp_rules.specs.Node.{NodeState, call_refusal, kept_or, topology_now}
use Rattle.sp_rules.specs.KflowSends.{send_krel_refusal}
use Rattle.sp_rules.specs.Sends.{rel_refusal, send_prio_refusal, signer_refusal, weight_refusal}
use Rattle.sp_rules.specs.declared.kflow.FlowKind.{FlowKind}
use Rattle.sp_rules.specs.declared.kflow.FlowKind.TheVariants.{Plain, Paths}
use Rattle.sp_rules.specs.Steps as steps
use Rattle.sp_rules.specs.Steps.{Input, NodeStep, Output, arrived, document_adopted, refused_call, refused_send}
use Rattle.sp_rules.specs.Ticks.{after_plain, at_time, due_now, second_refusal, settled_by}
use Rattle.sp_rules.specs.Topologies.{under, weights_in}
use Rattle.sp_rules.specs.Versions.{Live}
use Rattle.sp_rules.specs.declared.answers.DocumentAnswer.{DocumentAnswer}
use Rattle.sp_rules.specs.declared.answers.DocumentAnswer.TheVariants as answers
use Rattle.sp_rules.specs.declared.node.LinkReply.{LinkReply}
use Rattle.sp_rules.specs.declared.node.LinkReply.TheVariants as replies
use Rattle.sp_rules.specs.declared.node.NodeRefused.{NodeRefused}
use Rattle.sp_topology.specs.Ranges.{ids_of}
use Rattle.sp_topology.specs.declared.topology.Edge.{Edge}
use Rattle.sp_topology.specs.declared.topology.Topology.{Topology}
use Rattle.laws_node.specs.Withdrawals.{Adopts, IsSized}
use Rattle.laws_node.proofs.Adopting.{publishing}
use Rattle.laws_node.proofs.Boot.{weights_small}
use Rattle.laws_node.proofs.Changing.{only_the_administrator_changes}
use Rattle.sp_runs.specs.Forgery.{forged_document, is_published, lists_in, says_published}
use Rattle.sp_runs.specs.Inputs.{crafted_contents, crafted_document, crafted_frame, flipped, handed_out, input_of, last_weights, may_sign}
use Rattle.sp_runs.specs.Runs.{AreFields}
use Rattle.sp_runs.specs.Settings as settings
use Rattle.sp_runs.specs.Settings.{Setting, SettingFits}
use Rattle.sp_runs.specs.Worlds.{World, crafts}
use Rattle.sp_schedule_crafts.specs.Objects.{body_of}
use Rattle.sp_schedule_events.proofs.PublishedLemmas.{published_more}
use Rattle.sp_schedule_events.specs.Documents.{list_in, published, with_list}
use Rattle.sp_schedule_events.specs.declared.event.Event.{Event}
use Rattle.sp_schedule_events.specs.declared.event.Event.TheVariants as events
use Rattle.laws_runs.specs.Versions.{Brings, IsPublished, ListsStand, RunsUnder}
use Rattle.laws_runs.proofs.Published.{hands_out, has_version, lists_on, publishes, still_placed, still_published}
use Rattle.laws_runs.proofs.Reaches.{came}

-- ---- the first version

pub first_runs : (arts : Arts) (x : Setting) (es : List Event) → SettingFits arts x
    → RunsUnder arts x es (record {
      version = x.topology.version;
      weights = weights_in x.topology.edges;
      document = x.document x.topology.version (weights_in x.topology.edges);
    })
first_runs arts x es fits = record {
  published = inl (refl, refl);
  held = λ may.
      let first = fits.first in
      let some = fits.some in
      let read = fits.documents may x.topology.version (weights_in x.topology.edges) (length-map x.topology.edges (λ (e : Edge). e.weight))
      (weights_small x.topology.format (ids_of x.topology.nodes) (0, 0) x.topology.edges fits.topology.ranges.graph.are_edges)
      (omega (arith, first)) (omega (arith, first, some)) in
      record { document = read.document; reads = read.reads; signed = read.signed; topology = read.topology };
}

-- ---- which event hands out a document

abbrev pub IsNoDocument : Input → Type 0
IsNoDocument (steps.Publish document) = ⊥
IsNoDocument _ = Unit {0}

-- it brings no document by hand, or it is this one
pub data Hands (x : Setting) (w : World) (e : Event) (input : Input) : Type 0 where
  Hands_none : IsNoDocument input → Hands x w e input
  Hands_out : (u : NodeId) (weights : Option (List ℕ)) → e ≡ events.Publish u weights
      → input ≡ steps.Publish (handed_out x (with_list w.published weights)) → Hands x w e input

one_input : (a b : Input) → Some a ≡ Some b → a ≡ b
one_input a b e = cc

is_it : (x : Setting) (w : World) (e : Event) (a b : Input) → IsNoDocument a → Some a ≡ Some b → Hands x w e b
is_it x w e a b none same = Hands_none (subst IsNoDocument (one_input a b same) none)

pub hands : (arts : Arts) (x : Setting) (w : World) (n : NodeState) (e : Event) (input : Input) → input_of arts x w n e ≡ Some input → Hands x w e input
hands arts x w n (events.Rel s d payload) input reaches = is_it x w _ _ input tt reaches
hands arts x w n (events.Krel s d count payload) input reaches = is_it x w _ _ input tt reaches
hands arts x w n (events.Prio s d level expiry paths payload) input reaches = is_it x w _ _ input tt reaches
hands arts x w n (events.Take d s) input reaches = is_it x w _ _ input tt reaches
hands arts x w n (events.KTake d s) input reaches = is_it x w _ _ input tt reaches
hands arts x w n (events.TakePrio d) input reaches = is_it x w _ _ input tt reaches
hands arts x w n (events.Tick u now) input reaches = is_it x w _ _ input tt reaches
hands arts x w n (events.Weight u v weight) input reaches = is_it x w _ _ input tt reaches
hands arts x w n (events.Poll u v) input reaches = is_it x w _ _ input tt reaches
hands arts x w n (events.Pass u v number) input reaches =
    let it = came w.directions u v number (steps.Datagram u) input reaches in Hands_none (subst IsNoDocument (sym it.is) tt)
hands arts x w n (events.Flip u v number back bit) input reaches =
    let it = came w.directions u v number (λ bytes. steps.Datagram u (flipped back bit bytes)) input reaches in Hands_none (subst IsNoDocument (sym it.is) tt)
hands arts x w n (events.Inject u v bytes) input reaches = is_it x w _ _ input tt reaches
hands arts x w n (events.Craft c v key object) input reaches = go (nat_lt (crafts w.crafted key) x.total) reaches
  where
    frame : List ℕ
    frame = crafted_frame arts n c (crafted_contents arts x w.crafted n key (body_of object))

    go : (t : Bool) → cond t (Some (steps.Datagram c frame)) None ≡ Some input → Hands x w (events.Craft c v key object) input
    go true e = is_it x w _ (steps.Datagram c frame) input tt e
    go false e = absurd cc
hands arts x w n (events.CraftStatus c v s d base have) input reaches = is_it x w _ _ input tt reaches
hands arts x w n (events.Publish u weights) input reaches =
    Hands_out u weights refl (sym (one_input (steps.Publish (handed_out x (with_list w.published weights))) input reaches))
hands arts x w n (events.CraftDocument c v key version weights) input reaches = go (may_sign x w.crafted key) reaches
  where
    frame : List ℕ
    frame = crafted_frame arts n c (with_document (crafted_document arts x w.crafted key version (unwrap_or weights (last_weights x w.published))))

    go : (t : Bool) → cond t (Some (steps.Datagram c frame)) None ≡ Some input → Hands x w (events.CraftDocument c v key version weights) input
    go true e = is_it x w _ (steps.Datagram c frame) input tt e
    go false e = absurd cc
hands arts x w n (events.Start u) input reaches = absurd cc
hands arts x w n (events.Stop u) input reaches = absurd cc

-- ---- where a version came from

-- the version stays, or its document was handed to the node, or told as adopted from a frame
pub data Came_by (input : Input) (output : Output) (old new : Live) : Type 0 where
  As_it_was : new ≡ old → Came_by input output old new
  By_hand : input ≡ steps.Publish new.document → Came_by input output old new
  By_frame : output.adopted ≡ Some new.document → Came_by input output old new

read_adopts : (arts : Arts) (n : NodeState) (document : Option (List ℕ))
    → ((read_by arts n document).live ≡ n.live) ⊎ (document_adopted arts n document ≡ Some (read_by arts n document).live.document)
read_adopts arts n None = inl refl
read_adopts arts n (Some bytes) = go (document_answer arts n bytes) (arts.read_document bytes)
  where
    go : (a : DocumentAnswer) (o : Option Document)
        → ((adopting a n bytes o).live ≡ n.live) ⊎ (adopted_where a bytes ≡ Some (adopting a n bytes o).live.document)
    go answers.Bad o = inl refl
    go (answers.Old held) o = inl refl
    go answers.BadSig o = inl refl
    go answers.Strange o = inl refl
    go (answers.Adopted version) None = inl refl
    go (answers.Adopted version) (Some d) = inr refl

either_live : {X : Type 0} (o : Option X) (n m : NodeState) → m.live ≡ n.live → (kept_or o n m).live ≡ n.live
either_live None n m same = same
either_live (Some refused) n m same = refl

settled_live : (arts : Arts) (kind : FlowKind) (n : NodeState) (o : Option Ack) (refusal : Option SendRefused)
    → (settled_by arts kind n o refusal).live ≡ n.live
settled_live arts kind n None refusal = refl
settled_live arts kind n (Some ack) (Some why) = refl
settled_live arts kind n (Some ack) None = refl

came_by : (arts : Arts) (n : NodeState) (input : Input) (output : Output) (after : NodeState) → NodeStep arts n input output after
    → Came_by input output n.live after.live
came_by arts n (steps.Poll v) output after s = As_it_was (ap (λ (m : NodeState). m.live) s.1 ∙ either_live (call_refusal n v) n _ refl)
came_by arts n (steps.Datagram v bytes) output after s = go (call_refusal n v) (ap (λ (o : Output). o.adopted) s.0) s.1
  where
    left : NodeState
    left = before_document arts n v bytes

    go : (r : Option NodeRefused) → output.adopted ≡ (refused_call r (arrived arts n v bytes)).adopted
        → after ≡ kept_or r n (read_by arts left (document_at arts n v bytes)) → Came_by (steps.Datagram v bytes) output n.live after.live
    go (Some refused) told is = As_it_was (ap (λ (m : NodeState). m.live) is)
    go None told is = elim (read_adopts arts left (document_at arts n v bytes)) [
      | inl same ↦ As_it_was (ap (λ (m : NodeState). m.live) is ∙ same)
      | inr adopted ↦ By_frame (told ∙ adopted ∙ ap (λ (m : NodeState). Some m.live.document) (sym is))
    ]
came_by arts n (steps.Tick now) output after s =
    As_it_was (ap (λ (m : NodeState). m.live) s.1 ∙ settled_live arts Paths (after_plain arts n now) (due_now Paths n) (second_refusal arts n now)
    ∙ settled_live arts Plain (at_time n now) (due_now Plain n) (signer_refusal n.signer))
came_by arts n (steps.SendRel dst payload) output after s = As_it_was (ap (λ (m : NodeState). m.live) s.1 ∙ either_live (rel_refusal n dst) n _ refl)
came_by arts n (steps.SendPrio m) output after s =
    As_it_was (ap (λ (m : NodeState). m.live) s.new_is ∙ either_live (send_prio_refusal n m s.choice) n _ refl)
came_by arts n (steps.SetWeight v weight) output after s =
    As_it_was (ap (λ (m : NodeState). m.live) s.1 ∙ either_live (weight_refusal n v weight) n _ refl)
came_by arts n (steps.SendKrel m) output after s =
    As_it_was (ap (λ (m : NodeState). m.live) s.new_is ∙ either_live (send_krel_refusal n m s.choice) n _ refl)
came_by arts n (steps.TakeRel src) output after s = As_it_was (ap (λ (m : NodeState). m.live) s.1)
came_by arts n (steps.TakeKrel src) output after s = As_it_was (ap (λ (m : NodeState). m.live) s.1)
came_by arts n steps.TakePrio output after s = As_it_was (ap (λ (m : NodeState). m.live) s.1)
came_by arts n (steps.Publish document) output after s =
    subst (λ (m : NodeState). Came_by (steps.Publish document) output n.live m.live) (sym s.1)
    (publishing arts n document (λ m told. Came_by (steps.Publish document) output n.live m.live) (As_it_was refl) (λ d reads by. By_hand refl))

-- ---- a node that runs under a version that was handed out goes on so

-- edges under other weights have these weights
pub weights_under : (edges : List Edge) (weights : List ℕ) → length weights ≡ length edges → weights_in (under edges weights) ≡ weights
weights_under [] [] e = refl
weights_under [] (w ∷ weights) e = absurd (omega (arith, e))
weights_under (x ∷ edges) [] e = absurd (omega (arith, e))
weights_under (x ∷ edges) (w ∷ weights) e = ap (λ (ws : List ℕ). w ∷ ws) (weights_under edges weights (omega (arith, e)))

-- what is unforged was handed out
unforged_published : (arts : Arts) (es : List Event) (bytes : List ℕ) (d : Document) → arts.read_document bytes ≡ Some d
    → forged_document arts es (Some bytes) ≡ None → is_published es d.topology.version (weights_in d.topology.edges) ≡ true
unforged_published arts es bytes d reads unforged =
    go (is_published es d.topology.version (weights_in d.topology.edges)) refl
    (ap (λ (o : Option Document). cond (says_published es o) None (Some bytes)) (sym reads) ∙ unforged)
  where
    go : (t : Bool) → is_published es d.topology.version (weights_in d.topology.edges) ≡ t → cond t None (Some bytes) ≡ None
        → is_published es d.topology.version (weights_in d.topology.edges) ≡ true
    go true is e = is
    go false is e = absurd cc

pub still_runs : (arts : Arts) (x : Setting) (es : List Event) (e : Event) (live : Live) → RunsUnder arts x es live → RunsUnder arts x (es ++ e ∷ []) live
still_runs arts x es e live h =
    record { published = still_published x es (e ∷ []) live.version live.weights h.published; held = h.held }

pub still_brings : (arts : Arts) (x : Setting) (es : List Event) (e : Event) (bytes : List ℕ) → Brings arts x es bytes → Brings arts x (es ++ e ∷ []) bytes
still_brings arts x es e bytes b = record {
  may = b.may;
  document = b.document;
  reads = b.reads;
  published = still_published x es (e ∷ []) b.document.topology.version (weights_in b.document.topology.edges) b.published;
}

module _ (arts : Arts) (x : Setting) (es : List Event) (w : World) (e : Event) (n : NodeState) (input : Input) (output : Output) (after : NodeState)
    (fits : SettingFits arts x) (range : AreFields x es e) (reaches : input_of arts x w n e ≡ Some input) (step : NodeStep arts n input output after)
    (unforged : forged_document arts es output.adopted ≡ None) (last : w.published ≡ published es) (lists : ListsStand x (lists_in es)) where
  -- the document that is handed out is read as a version that is published then
  handed : (d : Document) → arts.read_document after.live.document ≡ Some d → input ≡ steps.Publish after.live.document
      → is_published (es ++ e ∷ []) d.topology.version (weights_in d.topology.edges) ≡ true
  handed d reads is = go (hands arts x w n e input reaches)
    where
      same_document : (a b : List ℕ) → steps.Publish a ≡ steps.Publish b → a ≡ b
      same_document a b e = cc

      go : Hands x w e input → is_published (es ++ e ∷ []) d.topology.version (weights_in d.topology.edges) ≡ true
      go (Hands_none none) = absurd (subst IsNoDocument is none)
      go (Hands_out u weights event hands) =
          let now : with_list w.published weights ≡ published (es ++ e ∷ []) =
          ap (λ (f : Event). with_list w.published (list_in f)) (sym event) ∙ published_more es w.published e last in
          let range_is : AreFields x es (events.Publish u weights) = subst (AreFields x es) event range in
          let is_one : is_some (published (es ++ e ∷ [])).weights ≡ true =
          subst (λ (f : Event). is_some (published (es ++ f ∷ [])).weights ≡ true) (sym event) (publishes x es u weights range_is) in
          let out = hands_out arts x (es ++ e ∷ []) fits (lists_on x es e range lists) is_one in
          let bytes : after.live.document ≡ x.document out.version out.weights =
          same_document after.live.document (handed_out x (with_list w.published weights)) (sym is ∙ hands) ∙ ap (handed_out x) now ∙ out.bytes_are in
          let both : Some d ≡ Some out.reads.document = sym reads ∙ ap arts.read_document bytes ∙ out.reads.reads in
          let same : d ≡ out.reads.document = cc in
          let topology : d.topology ≡ settings.version_of x out.version out.weights = ap (λ (o : Document). o.topology) same ∙ out.reads.topology in
          let weights_are : weights_in d.topology.edges ≡ out.weights =
          ap (λ (t : Topology). weights_in t.edges) topology ∙ weights_under x.topology.edges out.weights out.are.0 in
          subst (λ (k : ℕ). is_published (es ++ e ∷ []) k (weights_in d.topology.edges) ≡ true) (sym (ap (λ (t : Topology). t.version) topology))
          (subst (λ (ws : List ℕ). is_published (es ++ e ∷ []) out.version ws ≡ true) (sym weights_are) out.published)

  -- the topology now is that of the setting, with what a document changes
  abbrev IsOf : NodeState → Type 0
  IsOf m = (m.fixed.topology ≡ x.topology) × (m.fixed.admin ≡ x.admin) × (length m.live.weights ≡ length x.topology.edges)

  now_is : (m : NodeState) → IsOf m → topology_now m ≡ settings.version_of x m.live.version m.live.weights
  now_is m is = ap (λ (t : Topology). record t { version = m.live.version; edges = under t.edges m.live.weights }) is.0

  adopted : IsOf n → IsOf after → (a : Adopts arts n after) → arts.read_document after.live.document ≡ Some a.document
      → (is_published (es ++ e ∷ []) a.document.topology.version (weights_in a.document.topology.edges) ≡ true)
      → RunsUnder arts x (es ++ e ∷ []) after.live
  adopted was is a reads published =
      let topology : a.document.topology ≡ settings.version_of x after.live.version after.live.weights = sym a.topology ∙ now_is after is in
      let weights : weights_in a.document.topology.edges ≡ after.live.weights =
      ap (λ (t : Topology). weights_in t.edges) topology ∙ weights_under x.topology.edges after.live.weights is.2 in
      record {
        published = inr (subst (λ (k : ℕ). is_published (es ++ e ∷ []) k after.live.weights ≡ true) (sym a.version)
            (subst (λ (ws : List ℕ). is_published (es ++ e ∷ []) a.document.topology.version ws ≡ true) weights published));
        held = λ may. record {
          document = a.document;
          reads = reads;
          signed = subst (λ (key : List ℕ). IsTrue (arts.valid key a.document.message a.document.signature)) was.1 a.signed;
          topology = topology;
        };
      }

  pub goes_on : IsOf n → IsOf after → IsSized n → RunsUnder arts x es n.live → RunsUnder arts x (es ++ e ∷ []) after.live
  goes_on was is sized h = go (came_by arts n input output after step)
    where
      same : after.live ≡ n.live → RunsUnder arts x (es ++ e ∷ []) after.live
      same stays = subst (RunsUnder arts x (es ++ e ∷ [])) (sym stays) (still_runs arts x es e n.live h)

      by : ((d : Document) → arts.read_document after.live.document ≡ Some d
          → is_published (es ++ e ∷ []) d.topology.version (weights_in d.topology.edges) ≡ true) → RunsUnder arts x (es ++ e ∷ []) after.live
      by published = elim (only_the_administrator_changes arts n input output after sized step) [
        | inl stays ↦ same stays
        | inr a ↦
            let reads : arts.read_document after.live.document ≡ Some a.document = ap arts.read_document a.bytes_are ∙ a.reads in
            adopted was is a reads (published a.document reads)
      ]

      go : Came_by input output n.live after.live → RunsUnder arts x (es ++ e ∷ []) after.live
      go (As_it_was stays) = same stays
      go (By_hand hand) = by (λ d reads. handed d reads hand)
      go (By_frame frame) =
          by (λ d reads. still_placed es (e ∷ []) d.topology.version (weights_in d.topology.edges)
          (unforged_published arts es after.live.document d reads (subst (λ (o : Option (List ℕ)). forged_document arts es o ≡ None) frame unforged)))

-- ---- what forges nothing by a document

pub call_forges : (arts : Arts) (es : List Event) (r : Option NodeRefused) (o : Output) → forged_document arts es o.adopted ≡ None
    → forged_document arts es (refused_call r o).adopted ≡ None
call_forges arts es None o e = e
call_forges arts es (Some refused) o e = refl

pub send_forges : (arts : Arts) (es : List Event) (r : Option SendRefused) (o : Output) → forged_document arts es o.adopted ≡ None
    → forged_document arts es (refused_send r o).adopted ≡ None
send_forges arts es None o e = e
send_forges arts es (Some refused) o e = refl

pub where_forges : (arts : Arts) (es : List Event) (n : NodeState) (reply : LinkReply) (document : Option (List ℕ))
    → forged_document arts es (document_adopted arts n document) ≡ None
    → forged_document arts es (document_adopted arts n (document_where reply document)) ≡ None
where_forges arts es n replies.Fresh o e = e
where_forges arts es n replies.TooLong o e = refl
where_forges arts es n (replies.Short short) o e = refl
where_forges arts es n replies.Magic o e = refl
where_forges arts es n replies.Version o e = refl
where_forges arts es n replies.NotForMe o e = refl
where_forges arts es n replies.BadTag o e = refl
where_forges arts es n (replies.Learned boot) o e = refl
where_forges arts es n (replies.Stale boot counter) o e = refl
where_forges arts es n (replies.OtherTopology theirs) o e = refl
where_forges arts es n (replies.Section refused) o e = refl
where_forges arts es n replies.Withdrawn o e = refl

-- a document that was handed out, or is of the first version, forges nothing
pub brought_unforged : (arts : Arts) (x : Setting) (es : List Event) (n : NodeState) (bytes : List ℕ) → SettingFits arts x
    → IsPublished x es n.live.version n.live.weights → Brings arts x es bytes → forged_document arts es (document_adopted arts n (Some bytes)) ≡ None
brought_unforged arts x es n bytes fits runs brings =
    ap (λ (o : Option Document). forged_document arts es (adopted_where (answer_to arts n o) bytes)) brings.reads ∙ by brings.published
  where
    t : Topology
    t = brings.document.topology

    -- what is told of it is published
    told : is_published es t.version (weights_in t.edges) ≡ true → (a : DocumentAnswer) → forged_document arts es (adopted_where a bytes) ≡ None
    told is answers.Bad = refl
    told is (answers.Old held) = refl
    told is answers.BadSig = refl
    told is answers.Strange = refl
    told is (answers.Adopted version) =
        ap (λ (o : Option Document). cond (says_published es o) None (Some bytes)) brings.reads ∙ ap (λ (u : Bool). cond u None (Some bytes)) is

    old : (u : Bool) → u ≡ true → (b c : Bool) (version : ℕ)
        → forged_document arts es (adopted_where (cond u (answers.Old n.live.version) (cond (not b) answers.BadSig
        (cond (not c) answers.Strange (answers.Adopted version)))) bytes)
        ≡ None
    old true is b c version = refl
    old false is b c version = absurd (let wrong : false ≡ true = is in cc)

    by : IsPublished x es t.version (weights_in t.edges) → forged_document arts es (adopted_where (answer_to arts n (Some brings.document)) bytes) ≡ None
    by (inl one) =
        let is = one.0 in
        let first = fits.first in
        let some = has_version arts x es n.live.version n.live.weights fits runs in
        old (nat_le t.version n.live.version) (let below : t.version ≤ n.live.version = omega (arith, is, first, some) in grind (arith, nat_tests, below))
        (arts.valid n.fixed.admin brings.document.message brings.document.signature) _ _
    by (inr one) = told one (answer_to arts n (Some brings.document))
