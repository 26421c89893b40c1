-- The part on links and signed objects: all that correct nodes keep, and all that their frames carry, is signed and known.
use Rattle.std.proofs.Common.{◌≡◌, ℕ, true, List, [], ◌∷◌, ◌++◌, length, Option, Some, None, Ok, refl, sym, ap, subst, ◌∙◌, inl, inr, arith}
use Rattle.std.specs.Prelude.{◌⊎◌, slice_get, IfSome}
use Rattle.std.specs.List.{All}
use Rattle.std.proofs.lemmas.List.{length_push}
use Rattle.sp_base.specs.Spelling.{AreBytes}
use Rattle.sp_base.specs.declared.id.NodeId.{NodeId}
use Rattle.sp_frame.specs.Sections.{Contents}
use Rattle.sp_msg.specs.declared.kept.Kept.{Kept}
use Rattle.sp_rules.specs.Arts.{Arts}
use Rattle.sp_rules.specs.Node.{NodeState}
use Rattle.sp_rules.specs.Parts.{Fixed, nodes_of}
use Rattle.sp_rules.specs.Pieces.{pieces_of}
use Rattle.sp_rules.specs.Polls.{contents_to}
use Rattle.sp_rules.specs.Topologies.{weights_in}
use Rattle.sp_rules.specs.Versions.{Live}
use Rattle.sp_epoch.specs.declared.started.Started.{Started}
use Rattle.laws_node.specs.Inputs.{InputFits}
use Rattle.laws_node.specs.Objects.{objects_in}
use Rattle.laws_node.proofs.Carried.{AllKeep, all_less, contents_kept}
use Rattle.laws_node.proofs.Weaker.{node_weaker}
use Rattle.laws_node.proofs.Withdrawing.{sized}
use Rattle.sp_runs.specs.Forgery.{forged, forged_document, forged_object, has_forged_tag}
use Rattle.sp_runs.specs.Inputs.{acting, input_of}
use Rattle.sp_runs.specs.Lives.{next_start, ready}
use Rattle.sp_runs.specs.Runs.{AreFields, Clean, InRange, Lives, Starts, Turned, Moves, Stays, Move}
use Rattle.sp_runs.specs.Settings.{Setting, SettingFits, node_at_start}
use Rattle.sp_runs.specs.Worlds.{Direction, World, frames_in, node_in}
use Rattle.sp_journal.specs.declared.entry.Entry.{Entry}
use Rattle.sp_schedule_events.proofs.PublishedLemmas.{published_more}
use Rattle.sp_schedule_events.specs.Documents.{list_in, with_list}
use Rattle.sp_schedule_events.specs.declared.event.Event.{Event}
use Rattle.sp_schedule_events.specs.declared.event.Event.TheVariants as events
use Rattle.laws_runs.specs.KeyFiles.{KeysStand}
use Rattle.laws_runs.specs.Signs.{Good, NodeIs, Signs, SignsBegin, TurnsKeepSigns, sizes_at}
use Rattle.laws_runs.specs.Versions.{Brings, RunsUnder}
use Rattle.laws_runs.specs.Premises.{Carries, IsOfBytes}
use Rattle.laws_runs.proofs.KeyFiles.{key_files_stand, ready_once}
use Rattle.laws_runs.proofs.Ready.{readied_is, readied_live, ready_frames, ready_published, was_there}
use Rattle.laws_runs.proofs.Running.{more_found, without_left}
use Rattle.laws_runs.proofs.Begun.{start_is}
use Rattle.laws_runs.proofs.LifeCases.{Exhausts, LifeCase, Nobody, Starts_now, Stops, life_case}
use Rattle.laws_runs.proofs.Reaches.{input_fits, payload_fits}
use Rattle.laws_runs.proofs.Tables.{node_put}
use Rattle.laws_runs.proofs.Adopted.{first_runs, goes_on, still_brings, still_runs}
use Rattle.laws_runs.proofs.Published.{lists_begin, lists_on}
use Rattle.laws_runs.proofs.Started.{craft_list}
use Rattle.laws_runs.proofs.Goods.{all_of, of_all, good_more, plain_start, started, starts, unforged_both}
use Rattle.laws_runs.proofs.SignedEvents.{acted, own_document, polled_contents, polled_frame, EachFrame, frames_after, frames_missed, polled, made_bytes}

-- ---- a whole run

no_frames : (u v : NodeId) (k : ℕ) (bytes : List ℕ) → slice_get (frames_in [] u v) k ≡ Some (Some bytes) → ⊥
no_frames u v k bytes e = absurd cc

node_more : (x : Setting) (P Q : Kept → Type 0) (u : NodeId) (n : NodeState) → ((o : Kept) → P o → Q o) → NodeIs x P u n → NodeIs x Q u n
node_more x P Q u n less is = record {
  correct = is.correct;
  fixed = is.fixed;
  seed = is.seed;
  total = is.total;
  shape = is.shape;
  holds = node_weaker (sizes_at x P u) Q less n is.holds;
  acks = is.acks;
  obeys = is.obeys;
  dated = is.dated;
  plain = is.plain;
}

pub signs_begin : SignsBegin
signs_begin arts x fits = record {
  entries = refl;
  nodes = starts arts x (Good arts x [] []) fits;
  frames = λ u v k bytes s at read. absurd (no_frames u v k bytes at);
  bytes = λ u v k bytes at. absurd (no_frames u v k bytes at);
  documents = λ u v k bytes s at read. absurd (no_frames u v k bytes at);
  live = λ u n at.
      subst (λ (m : NodeState). RunsUnder arts x [] m.live) (sym (started x (nodes_of x.topology) u n (plain_start x u n at).1).0) (first_runs arts x [] fits);
  published = refl;
  lists = lists_begin arts x fits;
}

-- the world in which a node acts
pub signs_ready : (arts : Arts) (x : Setting) (es : List Event) (js : List Entry) (w : World) (e : Event) → KeysStand x es w → Signs arts x es js w
    → Signs arts x es js (ready x w e)
signs_ready arts x es js w e keys h = record {
  entries = h.entries;
  nodes = λ u n at.
      let was = was_there x w e u n at in
      readied_is x (Good arts x es js) es w u was.before n keys was.is_there was.readied (h.nodes u was.before was.is_there);
  frames = subst (λ (ds : List Direction). (u v : NodeId) (k : ℕ) (bytes : List ℕ) (s : Contents) → slice_get (frames_in ds u v) k ≡ Some (Some bytes)
      → arts.sections x.signature_len bytes ≡ Ok s → All (Good arts x es js) (objects_in (pieces_of s))) (sym (ready_frames x w e)) h.frames;
  bytes = subst (EachFrame (λ u v bytes. AreBytes bytes)) (sym (ready_frames x w e)) h.bytes;
  documents = subst (λ (ds : List Direction). (u v : NodeId) (k : ℕ) (bytes : List ℕ) (s : Contents) → slice_get (frames_in ds u v) k ≡ Some (Some bytes)
      → arts.sections x.signature_len bytes ≡ Ok s → IfSome s.document (Brings arts x es)) (sym (ready_frames x w e)) h.documents;
  live = λ u n at.
      let was = was_there x w e u n at in
      subst (RunsUnder arts x es) (sym (readied_live x w was.before n was.readied)) (h.live u was.before was.is_there);
  published = ready_published x w e ∙ h.published;
  lists = h.lists;
}

-- a frame that brings what was handed out goes on so
brings_more : (arts : Arts) (x : Setting) (es : List Event) (e : Event) (o : Option (List ℕ)) → IfSome o (Brings arts x es)
    → IfSome o (Brings arts x (es ++ e ∷ []))
brings_more arts x es e None h = tt
brings_more arts x es e (Some bytes) h = still_brings arts x es e bytes h

-- a node of a run is of its setting
pub of_setting : (x : Setting) (P : Kept → Type 0) (u : NodeId) (n : NodeState) → NodeIs x P u n
    → (n.fixed.topology ≡ x.topology) × (n.fixed.admin ≡ x.admin) × (length n.live.weights ≡ length x.topology.edges)
of_setting x P u n is = (ap (λ (f : Fixed). f.topology) is.fixed, ap (λ (f : Fixed). f.admin) is.fixed, is.holds.live.count)

-- a node moves in the world in which it acts
pub moves_keep : (arts : Arts) (x : Setting) (es : List Event) (js : List Entry) (old : World) (e : Event) (j : Entry) (new : World) → SettingFits arts x
    → Carries x.topology.format arts → Signs arts x es js old → AreFields x es e → (m : Move arts x old e j new)
    → forged arts x es js old m.node m.input m.output ≡ None
    → Signs arts x (es ++ e ∷ []) (js ++ j ∷ []) new
moves_keep arts x es' js' old e j new fits reads h range m unforged =
    let reach = input_fits arts x es' old m.node e m.input fits reads h.bytes range m.reaches in
    let same = h.entries in
    let P = Good arts x es' js' in
    let Q = Good arts x (es' ++ e ∷ []) (js' ++ j ∷ []) in
    let more = good_more arts x es' js' e j same in
    let nothing = unforged_both (has_forged_tag arts x old m.node m.input) (forged_object arts x es' js' m.output.answered)
    (forged_document arts es' m.output.adopted) unforged in
    let is = h.nodes (acting e) m.node m.is_there in
    let asked = payload_fits arts x es' old m.node e m.input range m.reaches in
    let done = acted arts x es' js' old new e j m fits reads reach asked same nothing.1 is in
    subst (Signs arts x (es' ++ e ∷ []) (js' ++ j ∷ [])) (sym m.world) (record {
      entries = omega (arith, same, length_push es' e, length_push js' j);
      nodes = λ u n at. elim (node_put u (acting e) m.after n old.nodes (ap (λ (f : Fixed). f.me) done.fixed) at) [
        | inl here ↦ subst (NodeIs x Q u) (sym here.1) (subst (λ (v : NodeId). NodeIs x Q v m.after) (sym here.0) done)
        | inr other ↦ node_more x P Q u n more (h.nodes u n other.1)
      ];
      frames = λ u v k bytes s at read. all_of Q (pieces_of s)
          (frames_after (λ (u v : NodeId) (bs : List ℕ). (s : Contents) → arts.sections x.signature_len bs ≡ Ok s → AllKeep Q (pieces_of s)) old.directions e
          m.output.reply
          (λ a b made poll reply s read. all_less P Q more (pieces_of s)
          (polled_frame arts x P (λ o is_it. is_it.good) m.node (acting e) b m.output made s reads is
          (polled arts x es' old m.node a b m.input m.output m.after made (subst (λ (y : Event). input_of arts x old m.node y ≡ Some m.input) poll m.reaches)
          m.step reply) reply read))
          (λ u v k bs at s read. all_less P Q more (pieces_of s) (of_all P (pieces_of s) (h.frames u v k bs s at read))) u v k bytes at s read);
      bytes = frames_after (λ (u v : NodeId) (bs : List ℕ). AreBytes bs) old.directions e m.output.reply
          (λ a b made poll reply. made_bytes x.topology.format arts m.node b m.output made reads is.holds.live.document.0
          (all_less P IsOfBytes (λ o good. good.bytes) (pieces_of (contents_to m.node.fixed m.node.parts b))
          (contents_kept (sizes_at x P (acting e)) m.node b is.holds))
          (polled arts x es' old m.node a b m.input m.output m.after made (subst (λ (y : Event). input_of arts x old m.node y ≡ Some m.input) poll m.reaches)
          m.step reply) reply)
          h.bytes;
      documents = λ u v k bytes s at read. frames_after
          (λ (u v : NodeId) (bs : List ℕ). (s : Contents) → arts.sections x.signature_len bs ≡ Ok s → IfSome s.document (Brings arts x (es' ++ e ∷ [])))
          old.directions e m.output.reply
          (λ a b made poll reply s read.
          let out = polled arts x es' old m.node a b m.input m.output m.after made
          (subst (λ (y : Event). input_of arts x old m.node y ≡ Some m.input) poll m.reaches) m.step reply in
          let it = polled_contents arts x P (λ o is_it. is_it.good) m.node (acting e) b m.output made s reads is out reply read in
          brings_more arts x es' e s.document (subst (λ (c : Contents). IfSome c.document (Brings arts x es')) (sym it.0)
          (own_document arts x es' P (acting e) m.node b is (h.live (acting e) m.node m.is_there))))
          (λ u v k bs at s read. brings_more arts x es' e s.document (h.documents u v k bs s at read)) u v k bytes at s read;
      live = λ u n at. elim (node_put u (acting e) m.after n old.nodes (ap (λ (f : Fixed). f.me) done.fixed) at) [
        | inl here ↦ subst (λ (y : NodeState). RunsUnder arts x (es' ++ e ∷ []) y.live) (sym here.1)
            (goes_on arts x es' old e m.node m.input m.output m.after fits range m.reaches m.step nothing.2 h.published h.lists
            (of_setting x P (acting e) m.node is) (of_setting x Q (acting e) m.after done) (sized (sizes_at x P (acting e)) m.node is.holds)
            (h.live (acting e) m.node m.is_there))
        | inr other ↦ still_runs arts x es' e n.live (h.live u n other.1)
      ];
      published = published_more es' old.published e h.published;
      lists = lists_on x es' e range h.lists;
    })

-- nodes that were there, or are new and good, and frames that were there
pub stay_keep : (arts : Arts) (x : Setting) (es : List Event) (js : List Entry) (old : World) (e : Event) (j : Entry) (new : World) → Signs arts x es js old
    → AreFields x es e → new.published ≡ with_list old.published (list_in e)
    → ((u : NodeId) (n : NodeState) → node_in new.nodes u ≡ Some n
    → (node_in old.nodes u ≡ Some n) ⊎ (NodeIs x (Good arts x (es ++ e ∷ []) (js ++ j ∷ [])) u n × RunsUnder arts x (es ++ e ∷ []) n.live))
    → ((F : NodeId → NodeId → List ℕ → Type 0) → EachFrame F old.directions → EachFrame F new.directions)
    → Signs arts x (es ++ e ∷ []) (js ++ j ∷ []) new
stay_keep arts x es js old e j new h range last nodes frames =
    let same = h.entries in
    let P = Good arts x es js in
    let Q = Good arts x (es ++ e ∷ []) (js ++ j ∷ []) in
    let more = good_more arts x es js e j same in
    record {
      entries = omega (arith, same, length_push es e, length_push js j);
      nodes = λ u n at. elim (nodes u n at) [
        | inl was ↦ node_more x P Q u n more (h.nodes u n was)
        | inr new ↦ new.0
      ];
      frames = λ u v k bytes c at read. all_of Q (pieces_of c) (all_less P Q more (pieces_of c)
          (of_all P (pieces_of c)
          (frames (λ (a b : NodeId) (bs : List ℕ). (s : Contents) → arts.sections x.signature_len bs ≡ Ok s → All P (objects_in (pieces_of s)))
          (λ a b i bs there s is. h.frames a b i bs s there is) u v k bytes at c read)));
      bytes = frames (λ a b bs. AreBytes bs) h.bytes;
      documents = λ u v k bytes c at read.
          frames (λ (a b : NodeId) (bs : List ℕ). (s : Contents) → arts.sections x.signature_len bs ≡ Ok s → IfSome s.document (Brings arts x (es ++ e ∷ [])))
          (λ a b i bs there s is. brings_more arts x es e s.document (h.documents a b i bs s there is)) u v k bytes at c read;
      live = λ u n at. elim (nodes u n at) [
        | inl was ↦ still_runs arts x es e n.live (h.live u n was)
        | inr new ↦ new.1
      ];
      published = last ∙ published_more es old.published e h.published;
      lists = lists_on x es e range h.lists;
    }

-- a node that starts runs under the first version
start_runs : (arts : Arts) (x : Setting) (es : List Event) → SettingFits arts x → x.epochs ≡ true → (u : NodeId) (s : Started)
    → RunsUnder arts x es (node_at_start arts x u s).live
start_runs arts x es fits on u s =
    let first : Live = record {
      version = x.topology.version;
      weights = weights_in x.topology.edges;
      document = x.document x.topology.version (weights_in x.topology.edges);
    } in
    let same : (node_at_start arts x u s).live ≡ first = rw on refl in
    subst (RunsUnder arts x es) (sym same) (first_runs arts x es fits)

life_keeps : (arts : Arts) (x : Setting) (es : List Event) (js : List Entry) (old : World) (e : Event) (j : Entry) (new : World) → SettingFits arts x
    → Carries x.topology.format arts → x.epochs ≡ true → KeysStand x es old → Signs arts x es js old → InRange x es e → LifeCase arts x old e j new
    → Signs arts x (es ++ e ∷ []) (js ++ j ∷ []) new
life_keeps arts x es js old e j new fits reads on keys h range (Starts_now u is start) =
    subst (λ (f : Event). Signs arts x (es ++ f ∷ []) (js ++ j ∷ []) new) (sym is)
    (stay_keep arts x es js old (events.Start u) j new h (subst (AreFields x es) is range.fields) (ap (λ (w : World). w.published) start.world)
    (λ v n at. elim (more_found v n (node_at_start arts x u (next_start x old u)) old.nodes
    (subst (λ (w : World). node_in w.nodes v ≡ Some n) start.world at)) [
      | inl was ↦ inl was
      | inr it ↦ inr (
        start_is arts x es js old new u j fits reads on keys h.entries (subst (InRange x es) is range) start v n it,
        subst (λ (m : NodeState). RunsUnder arts x (es ++ events.Start u ∷ []) m.live) (sym it.1)
            (start_runs arts x (es ++ events.Start u ∷ []) fits on u (next_start x old u)),
      )
    ])
    (λ F all. subst (λ (w : World). EachFrame F w.directions) (sym start.world) all))
life_keeps arts x es js old e j new fits reads on keys h range (Exhausts u is none) =
    stay_keep arts x es js old e j new h range.fields
    (ap (λ (w : World). w.published) none.world ∙ ap (λ (f : Event). with_list old.published (list_in f)) (sym is))
    (λ v n at. inl (subst (λ (w : World). node_in w.nodes v ≡ Some n) none.world at))
    (λ F all. subst (λ (w : World). EachFrame F w.directions) (sym none.world) all)
life_keeps arts x es js old e j new fits reads on keys h range (Stops u is stop) =
    let there = signs_ready arts x es js old (events.Stop u) keys h in
    stay_keep arts x es js (ready x old (events.Stop u)) e j new there range.fields
    (ap (λ (w : World). w.published) stop.world ∙ ap (λ (f : Event). with_list (ready x old (events.Stop u)).published (list_in f)) (sym is))
    (λ v n at. inl (without_left v u n (ready x old (events.Stop u)).nodes (subst (λ (w : World). node_in w.nodes v ≡ Some n) stop.world at)
    (ready_once x es old (events.Stop u) on keys)))
    (λ F all. subst (λ (w : World). EachFrame F w.directions) (sym stop.world) all)
life_keeps arts x es js old e j new fits reads on keys h range (Nobody other down) =
    stay_keep arts x es js old e j new h range.fields (ap (λ (w : World). w.published) down.world)
    (λ u n at. inl (subst (λ (w : World). node_in w.nodes u ≡ Some n) down.world at))
    (λ F all. subst (λ (w : World). EachFrame F w.directions) (sym down.world) (frames_missed F old.directions e all))

pub turns_keep_signs : TurnsKeepSigns
turns_keep_signs arts x es js old e j new fits reads keys h range (Moves m) unforged =
    moves_keep arts x es js (ready x old e) e j new fits reads (signs_ready arts x es js old e keys h) range.fields m unforged
turns_keep_signs arts x es js old e j new fits reads keys h range (Stays s) unforged =
    stay_keep arts x es js old e j new h range.fields
    (ap (λ (w : World). w.published) s.world ∙ sym (ap (with_list old.published) (craft_list s.key e s.is_craft)))
    (λ u n at. inl (subst (λ (w : World). node_in w.nodes u ≡ Some n) s.world at))
    (λ F all. subst (λ (w : World). EachFrame F w.directions) (sym s.world) all)
turns_keep_signs arts x es js old e j new fits reads keys h range (Lives on life) unforged =
    life_keeps arts x es js old e j new fits reads on keys h range (life_case arts x old e j new life)

-- in every state of a run without forgery the claims of signed objects hold
pub signs : (arts : Arts) (x : Setting) (es : List Event) (js : List Entry) (w : World) → SettingFits arts x → Carries x.topology.format arts
    → Clean arts x es js w → Signs arts x es js w
signs arts x es js w fits reads Starts = signs_begin arts x fits
signs arts x es js w fits reads (Turned {es = es'} {js = js'} {old = old} {e = e} {j = j} run range turn unforged) =
    turns_keep_signs arts x es' js' old e j w fits reads (key_files_stand arts x es' js' old fits run) (signs arts x es' js' old fits reads run) range turn
    unforged

-- the same in the world in which a node acts
pub signs_there : (arts : Arts) (x : Setting) (es : List Event) (js : List Entry) (w : World) (e : Event) → SettingFits arts x → Carries x.topology.format arts
    → Clean arts x es js w → Signs arts x es js (ready x w e)
signs_there arts x es js w e fits reads run = signs_ready arts x es js w e (key_files_stand arts x es js w fits run) (signs arts x es js w fits reads run)

-- what reaches a node after a run without forgery is in its ranges
pub reached : (arts : Arts) (x : Setting) (es : List Event) (js : List Entry) (w new : World) (e : Event) (j : Entry) → SettingFits arts x
    → Carries x.topology.format arts
    → Clean arts x es js w → InRange x es e → (m : Move arts x (ready x w e) e j new) → InputFits m.input
reached arts x es js w new e j fits carries run range m =
    input_fits arts x es (ready x w e) m.node e m.input fits carries (signs_there arts x es js w e fits carries run).bytes range.fields m.reaches
