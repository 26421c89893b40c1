-- What each event of a run keeps of what nodes sign.
use Rattle.std.proofs.Common.{◌≡◌, ◌<◌, ℕ, true, List, [], ◌∷◌, ◌++◌, length, Option, Some, None, Result, Ok, Err, refl, sym, ap, ap₂, subst, ◌∙◌, inl, inr}
use Rattle.std.proofs.Common.{arith, Bool, nat_lt, false}
use Rattle.std.specs.Prelude.{IsTrue, cond, slice_get, IfSome, ◌&&◌}
use Rattle.std.proofs.lemmas.Option.{same_Some}
use Rattle.std.specs.List.{All}
use Rattle.std.proofs.lemmas.List.{length_push}
use Rattle.std.proofs.lemmas.List.Elements.{All-append, All-nil}
use Rattle.sp_base.specs.Spelling.{AreBytes}
use Rattle.sp_frame.specs.Ranges.{IsContentsIn}
use Rattle.sp_base.specs.declared.id.NodeId.{NodeId}
use Rattle.sp_frame.specs.Sections.{Contents, with_document}
use Rattle.sp_frame.specs.declared.refused.SectionRefused.{SectionRefused}
use Rattle.sp_msg.specs.declared.kept.Kept.{Kept}
use Rattle.sp_rules.specs.Arrivals.{arrival_at, parts_met, pieces_in, reply_at, sections_in}
use Rattle.sp_rules.specs.Arts.{Arts}
use Rattle.sp_rules.specs.Node.{NodeState, call_refusal, link_in, signed_now, is_behind, is_shut_to, version_of}
use Rattle.sp_rules.specs.Parts.{Fixed, changes, is_signed}
use Rattle.sp_rules.specs.Pieces.{Piece, pieces_of}
use Rattle.sp_rules.specs.Polls.{contents_at, contents_to, frame_to, head_to, no_contents, untagged}
use Rattle.sp_rules.specs.KflowSends.{send_krel_refusal}
use Rattle.sp_rules.specs.Sends.{rel_refusal, send_prio_refusal, weight_refusal}
use Rattle.sp_rules.specs.Steps as steps
use Rattle.sp_rules.specs.Steps.{Input, NodeStep, Output, arrived, poll_output, refused_call, replied}
use Rattle.sp_rules.specs.declared.node.NodeRefused.{NodeRefused}
use Rattle.sp_rules.specs.Topologies.{weights_in}
use Rattle.sp_topology.specs.declared.topology.Topology.{Topology}
use Rattle.laws_node.specs.Inputs.{InputFits}
use Rattle.laws_node.specs.Shapes.{shape_at_start}
use Rattle.laws_node.specs.Asked.{NewKeep, OwnKeep, at_index, payload_in}
use Rattle.laws_node.specs.Objects.{objects_in}
use Rattle.laws_node.proofs.AskedLemmas.{none_new}
use Rattle.laws_node.proofs.Carried.{AllKeep, all_less, contents_kept, pieces_new}
use Rattle.laws_node.proofs.Frames.{frame_fits}
use Rattle.laws_node.proofs.Own.{fits_at, own_is_signed}
use Rattle.laws_node.proofs.Steps.{none_called, none_sent, step_holds, step_new}
use Rattle.laws_runs.proofs.Lives.{step_stays}
use Rattle.laws_node.proofs.Shapes.{shapes_stay}
use Rattle.laws_node.proofs.Weaker.{node_weaker}
use Rattle.laws_node.proofs.Tables.{cond_either, cond_where}
use Rattle.laws_node.proofs.Withdrawing.{sized, step_obeys}
use Rattle.sp_runs.specs.Forgery.{forged_object}
use Rattle.sp_runs.specs.Inputs.{acting, input_of}
use Rattle.sp_runs.specs.Lives.{directions_missed}
use Rattle.sp_runs.specs.Runs.{Clean, Starts, Turned, Move, directions_after}
use Rattle.sp_runs.specs.Settings.{Setting, SettingFits, fixed_at, link_keys, may_change, signer_from}
use Rattle.sp_runs.specs.Worlds.{Direction, World, frames_in}
use Rattle.sp_journal.specs.declared.entry.Entry.{Entry}
use Rattle.sp_schedule_events.specs.declared.event.Event.{Event}
use Rattle.sp_schedule_events.specs.declared.event.Event.TheVariants as events
use Rattle.laws_runs.specs.Signs.{Good, NodeIs, sizes_at}
use Rattle.laws_runs.specs.Versions.{Brings, IsPublished, RunsUnder}
use Rattle.laws_runs.specs.Premises.{Carries, HasGoodMessages, IsOfBytes}
use Rattle.laws_runs.specs.Unborn.{HoldNone}
use Rattle.laws_runs.proofs.Acks.{step_ack}
use Rattle.laws_runs.proofs.NoStarts.{in_keep, pieces_at, without}
use Rattle.laws_runs.proofs.Dated.{step_dated}
use Rattle.laws_runs.proofs.Unborn.{lives_stay, unborn_of}
use Rattle.laws_runs.proofs.Tables.{frame_put}
use Rattle.laws_runs.proofs.Adopted.{weights_under}
use Rattle.laws_runs.proofs.Goods.{all_of, of_all, where_keep, new_known, good_new, new_less, good_more, own_known, arts_fit}

-- a journal has as many entries as there were events
pub even : (arts : Arts) (x : Setting) (es : List Event) (js : List Entry) (w : World) → Clean arts x es js w → length es ≡ length js
even arts x es js w Starts = refl
even arts x es js w (Turned {es = es'} {js = js'} {old = old} {e = e} {j = j} run range turn unforged) =
    let h = even arts x es' js' old run in omega (arith, h, length_push es' e, length_push js' j)

-- whatever is read has this
abbrev pub ReadHas : (Kept → Type 0) → Arts → Type 0
ReadHas P arts = (len : ℕ) (bytes : List ℕ) (s : Contents) → AreBytes bytes → arts.sections len bytes ≡ Ok s → All P (objects_in (pieces_of s))

-- so what came in a datagram of bytes has it
sections_have : (P : Kept → Type 0) (arts : Arts) (f : Fixed) (bytes : List ℕ) (o : Result Contents SectionRefused) → ReadHas P arts → AreBytes bytes
    → sections_in arts f bytes ≡ o → AllKeep P (pieces_in f o)
sections_have P arts f bytes (Ok s) reads are is = in_keep P f s (of_all P (pieces_of s) (reads f.signature_len bytes s are is))
sections_have P arts f bytes (Err refused) reads are is = tt

-- and so has what is new
pub new_have : (P : Kept → Type 0) (arts : Arts) (n : NodeState) (input : Input) (output : Output) (after : NodeState) → ReadHas P arts → InputFits input
    → NodeStep arts n input output after → NewKeep P output.answered
new_have P arts n (steps.Datagram v bytes) output after reads are s =
    subst (λ (o : Output). NewKeep P o.answered) (sym s.0) (go (call_refusal n v))
  where
    pieces : List Piece
    pieces = pieces_at arts n v bytes

    go : (r : Option NodeRefused) → NewKeep P (refused_call r (arrived arts n v bytes)).answered
    go (Some refused) = tt
    go None = pieces_new P arts (arrival_at n v) (parts_met arts n v bytes) pieces
        (where_keep P (reply_at arts n v bytes) (pieces_in n.fixed (sections_in arts n.fixed bytes))
        (sections_have P arts n.fixed bytes (sections_in arts n.fixed bytes) reads are refl))
new_have P arts n (steps.Poll v) output after reads are s =
    none_new _ output.answered (ap (λ (o : Output). o.answered) s.0 ∙ none_called _ (call_refusal n v) refl)
new_have P arts n (steps.Tick now) output after reads are s = none_new _ output.answered (ap (λ (o : Output). o.answered) s.0)
new_have P arts n (steps.SendRel dst payload) output after reads are s =
    none_new _ output.answered (ap (λ (o : Output). o.answered) s.0 ∙ none_sent _ (rel_refusal n dst) refl)
new_have P arts n (steps.SendPrio m) output after reads are s =
    none_new _ output.answered (ap (λ (o : Output). o.answered) s.output_is ∙ none_sent _ (send_prio_refusal n m s.choice) refl)
new_have P arts n (steps.SetWeight v weight) output after reads are s =
    none_new _ output.answered (ap (λ (o : Output). o.answered) s.0 ∙ none_sent _ (weight_refusal n v weight) refl)
new_have P arts n (steps.SendKrel m) output after reads are s =
    none_new _ output.answered (ap (λ (o : Output). o.answered) s.output_is ∙ none_sent _ (send_krel_refusal n m s.choice) refl)
new_have P arts n (steps.TakeRel src) output after reads are s = none_new _ output.answered (ap (λ (o : Output). o.answered) s.0)
new_have P arts n (steps.TakeKrel src) output after reads are s = none_new _ output.answered (ap (λ (o : Output). o.answered) s.0)
new_have P arts n steps.TakePrio output after reads are s = none_new _ output.answered (ap (λ (o : Output). o.answered) s.0)
new_have P arts n (steps.Publish document) output after reads are s = none_new _ output.answered (ap (λ (o : Output). o.answered) s.0)

-- the acting node keeps what it keeps
pub acted : (arts : Arts) (x : Setting) (es : List Event) (js : List Entry) (w new : World) (e : Event) (j : Entry) (m : Move arts x w e j new)
    → SettingFits arts x → Carries x.topology.format arts → InputFits m.input → AreBytes (payload_in m.input) → length es ≡ length js
    → forged_object arts x es js m.output.answered ≡ None
    → NodeIs x (Good arts x es js) (acting e) m.node → NodeIs x (Good arts x (es ++ e ∷ []) (js ++ j ∷ [])) (acting e) m.after
acted arts x es js w new e j m fits carries reach asked same unforged is =
    let P = Good arts x es js in
    let Q = Good arts x (es ++ e ∷ []) (js ++ j ∷ []) in
    let more : (o : Kept) → P o → Q o = good_more arts x es js e j same in
    let fit = arts_fit arts x P (acting e) m.node fits is in
    let stays = step_stays arts m.node m.input m.output m.after m.step in
    let me : m.node.fixed.me ≡ acting e = ap (λ (f : Fixed). f.me) is.fixed in
    let signed_new : NewKeep (λ o. IsTrue (is_signed arts (fixed_at x (acting e) m.node.fixed.boot) o)) m.output.answered =
    subst (λ (f : Fixed). NewKeep (λ o. IsTrue (is_signed arts f o)) m.output.answered) is.fixed (step_new arts m.node m.input m.output m.after m.step) in
    let news = new_less P Q more m.output.answered (good_new arts x es js m.output.answered (new_known arts x es js m.output.answered unforged) signed_new
    (new_have IsOfBytes arts m.node m.input m.output m.after carries.reads reach m.step)
    (new_have (λ o. IsTrue (arts.is_good o.body)) arts m.node m.input m.output m.after carries.goods reach m.step)) in
    let owns : OwnKeep arts Q m.node m.input m.output.effects = λ index body own. record {
      known = λ correct. own_known arts x es js w new e j m same me index body own;
      right = subst (λ (f : Fixed). IsTrue (is_signed arts f (signed_now arts (at_index m.node index) body))) is.fixed
          (own_is_signed arts (at_index m.node index) body (fits_at arts m.node.fixed m.node.signer index fit) own.left own.mine);
      bytes = (
        subst AreBytes (sym own.payload) asked,
        carries.signatures m.node.fixed.topology.height m.node.signer.seed index (arts.spell body),
      );
      good = fit.own body own.fields own.about;
    } in
    record {
      correct = is.correct;
      fixed = stays.fixed ∙ is.fixed ∙ ap (λ (f : Fixed). fixed_at x (acting e) f.boot) (sym stays.fixed);
      seed = stays.seed ∙ is.seed;
      total = stays.total ∙ is.total;
      shape = shapes_stay arts m.node m.input m.output m.after m.step ∙ is.shape
          ∙ ap₂ (λ (f : Fixed) (bound : ℕ). shape_at_start (fixed_at x (acting e) f.boot) (signer_from x (acting e) 0 bound) (link_keys x (acting e)) x.buffer
          x.store)
          (sym stays.fixed) (sym stays.bound);
      holds = step_holds (sizes_at x Q (acting e)) arts m.node m.input m.output m.after fit reach news owns m.step
          (node_weaker (sizes_at x P (acting e)) Q more m.node is.holds);
      acks = step_ack arts m.node m.input m.output m.after m.step is.obeys is.acks;
      obeys = step_obeys arts m.node m.input m.output m.after (sized (sizes_at x P (acting e)) m.node is.holds) m.step is.obeys;
      dated = step_dated arts m.node m.input m.output m.after m.step is.dated;
      plain = λ off.
          let was = is.plain off in
          record {
            first = ap (λ (f : Fixed). f.boot) stays.fixed ∙ was.first;
            whole = stays.bound ∙ was.whole;
            unborn = unborn_of m.after.parts (subst HoldNone
                (sym (lives_stay arts m.node m.input m.output m.after m.step (without x P (acting e) m.node off is))) was.unborn.lives)
                (step_dated arts m.node m.input m.output m.after m.step is.dated);
          };
    }

-- what stands in a frame
pub contents_keep : (P : Kept → Type 0) (n : NodeState) (v : NodeId) → AllKeep P (pieces_of (contents_to n.fixed n.parts v))
    → AllKeep P (pieces_of (contents_at n v))
contents_keep P n v h =
    cond_either (λ (c : Contents). AllKeep P (pieces_of c)) (is_behind n v) (with_document n.live.document)
    (cond (is_shut_to n v) no_contents (contents_to n.fixed n.parts v)) (tt, tt)
    (cond_either (λ (c : Contents). AllKeep P (pieces_of c)) (is_shut_to n v) no_contents (contents_to n.fixed n.parts v) (tt, tt) h)

-- and the document in it is the node's
pub own_document : (arts : Arts) (x : Setting) (es : List Event) (P : Kept → Type 0) (u : NodeId) (n : NodeState) (v : NodeId) → NodeIs x P u n
    → RunsUnder arts x es n.live → IfSome (contents_at n v).document (Brings arts x es)
own_document arts x es P u n v is runs =
    cond_where (λ (c : Contents). IfSome c.document (Brings arts x es)) (is_behind n v) (with_document n.live.document)
    (cond (is_shut_to n v) no_contents (contents_to n.fixed n.parts v))
    (λ behind. held_brings (ap (λ (f : Fixed). changes f) (sym is.fixed)
    ∙ first_true (changes n.fixed) (nat_lt 0 (version_of n v)) (nat_lt (version_of n v) n.live.version) behind))
    (λ level. cond_either (λ (c : Contents). IfSome c.document (Brings arts x es)) (is_shut_to n v) no_contents (contents_to n.fixed n.parts v) tt tt)
  where
    first_true : (a b c : Bool) → (a && b && c) ≡ true → a ≡ true
    first_true true b c e = refl
    first_true false b c e = absurd (let wrong : false ≡ true = e in cc)

    held_brings : may_change x ≡ true → Brings arts x es n.live.document
    held_brings may =
        let h = runs.held may in
        let weights : weights_in h.document.topology.edges ≡ n.live.weights =
        ap (λ (t : Topology). weights_in t.edges) h.topology
        ∙ weights_under x.topology.edges n.live.weights (is.holds.live.count) in
        record {
          may = may;
          document = h.document;
          reads = h.reads;
          published = subst (λ (k : ℕ). IsPublished x es k (weights_in h.document.topology.edges)) (sym (ap (λ (t : Topology). t.version) h.topology))
              (subst (λ (ws : List ℕ). IsPublished x es n.live.version ws) (sym weights) runs.published);
        }

-- the frame of a node with good messages is read back as what stands in turn
pub frame_back : (arts : Arts) (x : Setting) (P : Kept → Type 0) → ((o : Kept) → P o → IsTrue (arts.is_good o.body))
    → (n : NodeState) (u v : NodeId) → Carries x.topology.format arts → NodeIs x P u n
    → arts.sections x.signature_len (frame_to arts n v) ≡ Ok (contents_at n v)
frame_back arts x P good n u v reads is =
    let c = contents_at n v in
    let format : n.fixed.topology.format ≡ x.topology.format = ap (λ (f : Fixed). f.topology.format) is.fixed in
    let kept : AllKeep P (pieces_of c) = contents_keep P n v (contents_kept (sizes_at x P u) n v is.holds) in
    let goods : HasGoodMessages arts c =
    all_of (λ o. IsTrue (arts.is_good o.body)) (pieces_of c) (all_less P (λ o. IsTrue (arts.is_good o.body)) good (pieces_of c) kept) in
    ap (λ (f : Fixed). arts.sections f.signature_len (frame_to arts n v)) (sym is.fixed)
    ∙ reads.back n.fixed.signature_len (head_to n v) c (link_in n v).key format
    (subst (λ (f : ℕ). IsContentsIn f n.fixed.signature_len c) format (frame_fits (sizes_at x P u) n v is.holds)) goods

-- a frame that a poll gave has what stands in turn, which is what the node keeps
pub polled_contents : (arts : Arts) (x : Setting) (P : Kept → Type 0) → ((o : Kept) → P o → IsTrue (arts.is_good o.body))
    → (n : NodeState) (u v : NodeId) (output : Output) (bytes : List ℕ) (s : Contents) → Carries x.topology.format arts → NodeIs x P u n
    → output ≡ poll_output arts n v → output.reply ≡ steps.Frame bytes → arts.sections x.signature_len bytes ≡ Ok s
    → (s ≡ contents_at n v) × AllKeep P (pieces_of (contents_at n v))
polled_contents arts x P good n u v output bytes s reads is out reply read =
    let c = contents_at n v in
    let bytes_are : frame_to arts n v ≡ bytes = gives (call_refusal n v) (ap (λ (o : Output). o.reply) (sym out) ∙ reply) in
    let here : Ok s ≡ Ok c = sym read ∙ ap (arts.sections x.signature_len) (sym bytes_are) ∙ frame_back arts x P good n u v reads is in
    let same : s ≡ c = cc in
    (same, contents_keep P n v (contents_kept (sizes_at x P u) n v is.holds))
  where
    gives : (r : Option NodeRefused) → (refused_call r (replied (steps.Frame (frame_to arts n v)))).reply ≡ steps.Frame bytes → frame_to arts n v ≡ bytes
    gives None e = cc
    gives (Some refused) e = absurd cc

-- the frame of a poll holds what the node keeps, and that is signed
pub polled_frame : (arts : Arts) (x : Setting) (P : Kept → Type 0) → ((o : Kept) → P o → IsTrue (arts.is_good o.body))
    → (n : NodeState) (u v : NodeId) (output : Output) (bytes : List ℕ) (s : Contents) → Carries x.topology.format arts → NodeIs x P u n
    → output ≡ poll_output arts n v → output.reply ≡ steps.Frame bytes → arts.sections x.signature_len bytes ≡ Ok s → AllKeep P (pieces_of s)
polled_frame arts x P good n u v output bytes s reads is out reply read =
    let it = polled_contents arts x P good n u v output bytes s reads is out reply read in
    subst (λ (y : Contents). AllKeep P (pieces_of y)) (sym it.0) it.1

-- what holds of all frames that were made, and of a new one, holds of all
abbrev pub EachFrame : (F : NodeId → NodeId → List ℕ → Type 0) → List Direction → Type 0
EachFrame F ds = (u v : NodeId) (k : ℕ) (bytes : List ℕ) → slice_get (frames_in ds u v) k ≡ Some (Some bytes) → F u v bytes

-- what holds of the frames under way holds of those after an event, where the new one has it
pub frames_after : (F : NodeId → NodeId → List ℕ → Type 0) (ds : List Direction) (e : Event) (r : steps.Reply)
    → ((a b : NodeId) (made : List ℕ) → e ≡ events.Poll a b → r ≡ steps.Frame made → F a b made)
    → EachFrame F ds → EachFrame F (directions_after ds e r)
frames_after F ds (events.Poll a b) (steps.Frame made) new old u v k bytes at = elim (frame_put u v a b ds (Some made) k (Some bytes) at) [
  | inl last ↦
      let same : bytes ≡ made = same_Some bytes made last.2 in
      subst (F u v) (sym same) (subst (λ (m : NodeId). F u m made) (sym last.1) (subst (λ (m : NodeId). F m b made) (sym last.0) (new a b made refl refl)))
  | inr was ↦ old u v k bytes was
]
frames_after F ds (events.Poll a b) (steps.Arrived link items) new old u v k bytes at = old u v k bytes at
frames_after F ds (events.Poll a b) (steps.Ticked reply) new old u v k bytes at = old u v k bytes at
frames_after F ds (events.Poll a b) (steps.Accepted number) new old u v k bytes at = old u v k bytes at
frames_after F ds (events.Poll a b) (steps.Refused refused) new old u v k bytes at = old u v k bytes at
frames_after F ds (events.Poll a b) (steps.NotCalled refused) new old u v k bytes at = old u v k bytes at
frames_after F ds (events.Poll a b) (steps.Payload payload) new old u v k bytes at = old u v k bytes at
frames_after F ds (events.Poll a b) (steps.Message entry) new old u v k bytes at = old u v k bytes at
frames_after F ds (events.Poll a b) (steps.Replaced answer) new old u v k bytes at = old u v k bytes at
frames_after F ds (events.Rel a b p) r new old u v k bytes at = old u v k bytes at
frames_after F ds (events.Krel a b count p) r new old u v k bytes at = old u v k bytes at
frames_after F ds (events.Prio a b c d f p) r new old u v k bytes at = old u v k bytes at
frames_after F ds (events.Take a b) r new old u v k bytes at = old u v k bytes at
frames_after F ds (events.KTake a b) r new old u v k bytes at = old u v k bytes at
frames_after F ds (events.TakePrio a) r new old u v k bytes at = old u v k bytes at
frames_after F ds (events.Tick a b) r new old u v k bytes at = old u v k bytes at
frames_after F ds (events.Weight a b c) r new old u v k bytes at = old u v k bytes at
frames_after F ds (events.Pass a b c) r new old u v k bytes at = old u v k bytes at
frames_after F ds (events.Flip a b c d f) r new old u v k bytes at = old u v k bytes at
frames_after F ds (events.Inject a b c) r new old u v k bytes at = old u v k bytes at
frames_after F ds (events.Craft a b c d) r new old u v k bytes at = old u v k bytes at
frames_after F ds (events.CraftStatus a b c d f g) r new old u v k bytes at = old u v k bytes at
frames_after F ds (events.Publish u' weights) r new old u v k bytes at = old u v k bytes at
frames_after F ds (events.CraftDocument c' v' key' version weights) r new old u v k bytes at = old u v k bytes at
frames_after F ds (events.Start a) r new old u v k bytes at = old u v k bytes at
frames_after F ds (events.Stop a) r new old u v k bytes at = old u v k bytes at

-- and of all after a poll of a node that didn't run
pub frames_missed : (F : NodeId → NodeId → List ℕ → Type 0) (ds : List Direction) (e : Event) → EachFrame F ds → EachFrame F (directions_missed ds e)
frames_missed F ds (events.Poll a b) old u v k bytes at = elim (frame_put u v a b ds None k (Some bytes) at) [
  | inl last ↦ absurd (let none : Some bytes ≡ None = last.2 in cc)
  | inr was ↦ old u v k bytes was
]
frames_missed F ds (events.Rel a b p) old u v k bytes at = old u v k bytes at
frames_missed F ds (events.Krel a b count p) old u v k bytes at = old u v k bytes at
frames_missed F ds (events.Prio a b c d f p) old u v k bytes at = old u v k bytes at
frames_missed F ds (events.Take a b) old u v k bytes at = old u v k bytes at
frames_missed F ds (events.KTake a b) old u v k bytes at = old u v k bytes at
frames_missed F ds (events.TakePrio a) old u v k bytes at = old u v k bytes at
frames_missed F ds (events.Tick a b) old u v k bytes at = old u v k bytes at
frames_missed F ds (events.Weight a b c) old u v k bytes at = old u v k bytes at
frames_missed F ds (events.Pass a b c) old u v k bytes at = old u v k bytes at
frames_missed F ds (events.Flip a b c d f) old u v k bytes at = old u v k bytes at
frames_missed F ds (events.Inject a b c) old u v k bytes at = old u v k bytes at
frames_missed F ds (events.Craft a b c d) old u v k bytes at = old u v k bytes at
frames_missed F ds (events.CraftStatus a b c d f g) old u v k bytes at = old u v k bytes at
frames_missed F ds (events.Publish u' weights) old u v k bytes at = old u v k bytes at
frames_missed F ds (events.CraftDocument c' v' key' version weights) old u v k bytes at = old u v k bytes at
frames_missed F ds (events.Start a) old u v k bytes at = old u v k bytes at
frames_missed F ds (events.Stop a) old u v k bytes at = old u v k bytes at

-- a frame that a poll gave is the node's
pub polled : (arts : Arts) (x : Setting) (es : List Event) (w : World) (n : NodeState) (a b : NodeId) (input : Input) (output : Output) (after : NodeState)
    (made : List ℕ)
    → input_of arts x w n (events.Poll a b) ≡ Some input → NodeStep arts n input output after → output.reply ≡ steps.Frame made
    → output ≡ poll_output arts n b
polled arts x es w n a b input output after made reaches step reply =
    let same : input ≡ steps.Poll b = cc in
    let moves : NodeStep arts n (steps.Poll b) output after = subst (λ i. NodeStep arts n i output after) same step in
    moves.0

-- the frame of a node whose document and objects are of bytes is bytes
pub made_bytes : (format : ℕ) (arts : Arts) (n : NodeState) (v : NodeId) (output : Output) (made : List ℕ) → Carries format arts
    → AreBytes n.live.document → AllKeep IsOfBytes (pieces_of (contents_to n.fixed n.parts v))
    → output ≡ poll_output arts n v → output.reply ≡ steps.Frame made → AreBytes made
made_bytes format arts n v output made carries document of out reply =
    let h = head_to n v in
    let c = contents_to n.fixed n.parts v in
    let of_bytes : Contents → Type 0 = λ (s : Contents). AreBytes (arts.frame h s) in
    let before_tag : AreBytes (untagged arts n v) =
    cond_either of_bytes (is_behind n v) (with_document n.live.document) (cond (is_shut_to n v) no_contents c)
    (carries.document_frames h n.live.document document)
    (cond_either of_bytes (is_shut_to n v) no_contents c
    (carries.frames h no_contents (record { document = refl; probe = refl }) (All-nil IsOfBytes))
    (carries.frames h c (record { document = refl; probe = refl }) (all_of IsOfBytes (pieces_of c) of))) in
    let is : frame_to arts n v ≡ made = gives (call_refusal n v) (ap (λ (o : Output). o.reply) (sym out) ∙ reply) in
    subst AreBytes is (All-append (λ (b : ℕ). b < 256) (untagged arts n v) (arts.tag (link_in n v).key (untagged arts n v))
    before_tag (carries.tags (link_in n v).key (untagged arts n v)))
  where
    gives : (r : Option NodeRefused) → (refused_call r (replied (steps.Frame (frame_to arts n v)))).reply ≡ steps.Frame made → frame_to arts n v ≡ made
    gives None e = cc
    gives (Some refused) e = absurd cc
