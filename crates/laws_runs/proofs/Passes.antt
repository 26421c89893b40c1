-- Only the adversary forges: no pass of a frame is forged, and no event of a client, a clock or a poll.
use Rattle.std.proofs.Common.{◌≡◌, ℕ, zero, suc, Bool, true, false, cond, List, [], ◌∷◌, Option, Some, None, Result, Ok, Err, refl, sym, ap, subst, ◌∙◌}
use Rattle.std.specs.Prelude.{◌&&◌, ◌||◌, not, option_map, slice_get, IfSome}
use Rattle.std.proofs.lemmas.Option.{same_Some}
use Rattle.sp_base.specs.declared.id.NodeId.{NodeId}
use Rattle.sp_base.specs.Cursor.{or_else}
use Rattle.sp_frame.specs.Sections.{Contents}
use Rattle.sp_frame.specs.declared.refused.SectionRefused.{SectionRefused}
use Rattle.sp_msg.specs.declared.kept.Kept.{Kept}
use Rattle.sp_msg.specs.declared.refused.SendRefused.{SendRefused}
use Rattle.sp_rules.specs.Arrivals.{arrival_at, parts_met, pieces_in, reply_at, sections_in, before_document, document_at, document_in}
use Rattle.sp_rules.specs.Arts.{Arts}
use Rattle.sp_rules.specs.Node.{NodeState, call_refusal}
use Rattle.sp_rules.specs.KflowSends.{send_krel_refusal}
use Rattle.sp_rules.specs.Parts.{Fixed}
use Rattle.sp_rules.specs.Sends.{rel_refusal, send_prio_refusal, weight_refusal}
use Rattle.sp_rules.specs.Steps as steps
use Rattle.sp_rules.specs.Steps.{Input, NodeStep, Output, arrived, refused_call, refused_send, document_adopted}
use Rattle.sp_rules.specs.declared.answers.Item.{Item}
use Rattle.sp_rules.specs.declared.node.NodeRefused.{NodeRefused}
use Rattle.laws_node.specs.Asked.{NewKeep}
use Rattle.laws_node.proofs.Carried.{AllKeep, pieces_new}
use Rattle.sp_rules.specs.Pieces.{pieces_of}
use Rattle.sp_runs.specs.Forgery.{forged, forged_document, forged_object, has_forged_tag, is_forged, is_frame, is_made, is_tagged}
use Rattle.sp_runs.specs.Inputs.{input_of}
use Rattle.sp_runs.specs.Lives.{ready}
use Rattle.sp_runs.specs.Runs.{Lives, Move, Moves, Stays, Turn, forged_in}
use Rattle.sp_runs.specs.Settings.{Setting, SettingFits, is_correct}
use Rattle.sp_runs.specs.Worlds.{World, frames_in}
use Rattle.sp_journal.specs.declared.entry.Entry.{Entry}
use Rattle.sp_schedule_events.specs.declared.event.Event.{Event}
use Rattle.sp_schedule_events.specs.declared.event.Event.TheVariants as events
use Rattle.sp_runs.specs.declared.what.What.{What}
use Rattle.sp_runs.specs.declared.what.What.TheVariants as whats
use Rattle.laws_runs.specs.Laws.{IsHostile, OnlyTheAdversaryForges}
use Rattle.laws_runs.specs.Premises.{Carries}
use Rattle.laws_runs.specs.Signs.{Good, Signs}
use Rattle.laws_runs.specs.Versions.{Brings, IsPublished}
use Rattle.laws_runs.proofs.NoStarts.{in_keep, pieces_at}
use Rattle.laws_runs.proofs.Lists.{or_true, same_bytes}
use Rattle.laws_runs.proofs.Reaches.{came}
use Rattle.laws_runs.proofs.Goods.{of_all, where_keep}
use Rattle.laws_runs.proofs.Signed.{signs_there}
use Rattle.laws_runs.proofs.Adopted.{brought_unforged, call_forges, send_forges, where_forges}

-- ---- nothing is forged where all that is new is known

all_three : (a b c : Bool) → (a ≡ true → b ≡ true → c ≡ true) → (a && b && not c) ≡ false
all_three true true true h = refl
all_three true true false h = absurd (let e = h refl refl in cc)
all_three true false c h = refl
all_three false b c h = refl

nothing_new : (arts : Arts) (x : Setting) (es : List Event) (js : List Entry) (answered : List (Kept × Item)) → NewKeep (Good arts x es js) answered
    → forged_object arts x es js answered ≡ None
nothing_new arts x es js [] h = refl
nothing_new arts x es js (a ∷ others) h =
    let fine : is_forged arts x es js a ≡ false = all_three _ _ _ (λ new correct. (h.0 new).known correct) in
    rw fine (nothing_new arts x es js others h.1)

pub neither_both : (t : Bool) (o d : Option (List ℕ)) → t ≡ false → o ≡ None → d ≡ None → cond t (Some whats.Tag) (option_map whats.Object (or_else o d)) ≡ None
neither_both t o d e f g = rw (e, f, g) refl

-- ---- what was made and passed is good

-- the frame in a place is a frame of these places
made_get : (bytes : List ℕ) (frames : List (Option (List ℕ))) (k : ℕ) → slice_get frames k ≡ Some (Some bytes) → is_made bytes frames ≡ true
made_get bytes [] k at = absurd cc
made_get bytes (f ∷ frames) zero at =
    let same : f ≡ Some bytes = same_Some f (Some bytes) at in
    subst (λ (g : Option (List ℕ)). (is_frame bytes g || is_made bytes frames) ≡ true) (sym same) (ap (λ t. t || is_made bytes frames) (same_bytes bytes))
made_get bytes (f ∷ frames) (suc k) at = let rest = made_get bytes frames k at in rw rest (or_true (is_frame bytes f))

pub in_good : (P : Kept → Type 0) (f : Fixed) (r : Result Contents SectionRefused) → ((s : Contents) → r ≡ Ok s → AllKeep P (pieces_of s))
    → AllKeep P (pieces_in f r)
in_good P f (Ok s) h = in_keep P f s (h s refl)
in_good P f (Err refused) h = tt

pub called_good : (P : Kept → Type 0) (o : Output) (r : Option NodeRefused) → NewKeep P o.answered → NewKeep P (refused_call r o).answered
called_good P o None h = h
called_good P o (Some refused) h = tt

-- a document that was handed out forges nothing
published_in : (arts : Arts) (x : Setting) (es : List Event) (n : NodeState) → SettingFits arts x → IsPublished x es n.live.version n.live.weights
    → (r : Result Contents SectionRefused) → ((s : Contents) → r ≡ Ok s → IfSome s.document (Brings arts x es))
    → forged_document arts es (document_adopted arts n (document_in r)) ≡ None
published_in arts x es n fits runs (Err refused) brings = refl
published_in arts x es n fits runs (Ok s) brings = go s.document (brings s refl)
  where
    go : (o : Option (List ℕ)) → IfSome o (Brings arts x es) → forged_document arts es (document_adopted arts n o) ≡ None
    go None brings = refl
    go (Some document) brings = brought_unforged arts x es n document fits runs brings

pub pass_unforged : (arts : Arts) (x : Setting) (es : List Event) (js : List Entry) (w new : World) (u v : NodeId) (number : ℕ) (j : Entry)
    → SettingFits arts x → Carries x.topology.format arts
    → Signs arts x es js w → (m : Move arts x w (events.Pass u v number) j new) → forged arts x es js w m.node m.input m.output ≡ None
pass_unforged arts x es js w new u v number j fits reads h m =
    let P = Good arts x es js in
    let it = came w.directions u v number (steps.Datagram u) m.input m.reaches in
    let is = h.nodes v m.node m.is_there in
    let me : m.node.fixed.me ≡ v = ap (λ (f : Fixed). f.me) is.fixed in
    let moves : NodeStep arts m.node (steps.Datagram u it.bytes) m.output m.after = subst (λ i. NodeStep arts m.node i m.output m.after) it.is m.step in
    let pieces = in_good P m.node.fixed (sections_in arts m.node.fixed it.bytes)
    (λ s read. of_all P (pieces_of s)
    (h.frames u v it.place it.bytes s it.there (ap (λ (f : Fixed). arts.sections f.signature_len it.bytes) (sym is.fixed) ∙ read))) in
    let news : NewKeep P m.output.answered =
    subst (λ (o : Output). NewKeep P o.answered) (sym moves.0) (called_good P (arrived arts m.node u it.bytes) (call_refusal m.node u)
    (pieces_new P arts (arrival_at m.node u) (parts_met arts m.node u it.bytes) (pieces_at arts m.node u it.bytes)
    (where_keep P (reply_at arts m.node u it.bytes) (pieces_in m.node.fixed (sections_in arts m.node.fixed it.bytes)) pieces))) in
    let left = before_document arts m.node u it.bytes in
    let untouched : forged_document arts es (document_adopted arts left (document_at arts m.node u it.bytes)) ≡ None =
    where_forges arts es left (reply_at arts m.node u it.bytes) (document_in (sections_in arts m.node.fixed it.bytes))
    (published_in arts x es left fits (h.live v m.node m.is_there).published (sections_in arts m.node.fixed it.bytes)
    (λ s read. h.documents u v it.place it.bytes s it.there (ap (λ (f : Fixed). arts.sections f.signature_len it.bytes) (sym is.fixed) ∙ read))) in
    let tag : has_forged_tag arts x w m.node m.input ≡ false =
    ap (has_forged_tag arts x w m.node) it.is
    ∙ all_three (is_correct x u) (is_tagged (reply_at arts m.node u it.bytes)) (is_made it.bytes (frames_in w.directions u m.node.fixed.me))
    (λ correct tagged. subst (λ (y : NodeId). is_made it.bytes (frames_in w.directions u y) ≡ true) (sym me)
    (made_get it.bytes (frames_in w.directions u v) it.place it.there)) in
    neither_both _ _ _ tag (nothing_new arts x es js m.output.answered news)
    (ap (λ (o : Output). forged_document arts es o.adopted) moves.0 ∙ call_forges arts es (call_refusal m.node u) (arrived arts m.node u it.bytes) untouched)

-- ---- the other events bring no objects

none_answered : (arts : Arts) (x : Setting) (es : List Event) (js : List Entry) (xs : List (Kept × Item)) → xs ≡ [] → forged_object arts x es js xs ≡ None
none_answered arts x es js xs e = ap (forged_object arts x es js) e

no_send : (r : Option SendRefused) (o : Output) → o.answered ≡ [] → (refused_send r o).answered ≡ []
no_send None o e = e
no_send (Some refused) o e = refl

no_call : (r : Option NodeRefused) (o : Output) → o.answered ≡ [] → (refused_call r o).answered ≡ []
no_call None o e = e
no_call (Some refused) o e = refl

-- a step by a client, a clock or a poll, or the administrator's hand
quiet : (arts : Arts) (x : Setting) (es : List Event) (js : List Entry) (w : World) (n : NodeState) (i : Input) (output : Output) (after : NodeState)
    → NodeStep arts n i output after
    → ((u : NodeId) (bytes : List ℕ) → i ≡ steps.Datagram u bytes → ⊥) → forged arts x es js w n i output ≡ None
quiet arts x es js w n (steps.Poll v) output after s other =
    neither_both false _ _ refl (none_answered arts x es js _ (ap (λ (o : Output). o.answered) s.0 ∙ no_call (call_refusal n v) _ refl))
    (ap (λ (o : Output). forged_document arts es o.adopted) s.0 ∙ call_forges arts es (call_refusal n v) _ refl)
quiet arts x es js w n (steps.Datagram u bytes) output after s other = absurd (other u bytes refl)
quiet arts x es js w n (steps.Tick now) output after s other =
    neither_both false _ _ refl (none_answered arts x es js _ (ap (λ (o : Output). o.answered) s.0))
    (ap (λ (o : Output). forged_document arts es o.adopted) s.0)
quiet arts x es js w n (steps.SendRel dst p) output after s other =
    neither_both false _ _ refl (none_answered arts x es js _ (ap (λ (o : Output). o.answered) s.0 ∙ no_send (rel_refusal n dst) _ refl))
    (ap (λ (o : Output). forged_document arts es o.adopted) s.0 ∙ send_forges arts es (rel_refusal n dst) _ refl)
quiet arts x es js w n (steps.SendPrio m) output after s other =
    neither_both false _ _ refl (none_answered arts x es js _ (ap (λ (o : Output). o.answered) s.output_is ∙ no_send (send_prio_refusal n m s.choice) _ refl))
    (ap (λ (o : Output). forged_document arts es o.adopted) s.output_is ∙ send_forges arts es (send_prio_refusal n m s.choice) _ refl)
quiet arts x es js w n (steps.SetWeight v weight) output after s other =
    neither_both false _ _ refl (none_answered arts x es js _ (ap (λ (o : Output). o.answered) s.0 ∙ no_send (weight_refusal n v weight) _ refl))
    (ap (λ (o : Output). forged_document arts es o.adopted) s.0 ∙ send_forges arts es (weight_refusal n v weight) _ refl)
quiet arts x es js w n (steps.SendKrel m) output after s other =
    neither_both false _ _ refl (none_answered arts x es js _ (ap (λ (o : Output). o.answered) s.output_is ∙ no_send (send_krel_refusal n m s.choice) _ refl))
    (ap (λ (o : Output). forged_document arts es o.adopted) s.output_is ∙ send_forges arts es (send_krel_refusal n m s.choice) _ refl)
quiet arts x es js w n (steps.TakeKrel src) output after s other =
    neither_both false _ _ refl (none_answered arts x es js _ (ap (λ (o : Output). o.answered) s.0))
    (ap (λ (o : Output). forged_document arts es o.adopted) s.0)
quiet arts x es js w n (steps.TakeRel src) output after s other =
    neither_both false _ _ refl (none_answered arts x es js _ (ap (λ (o : Output). o.answered) s.0))
    (ap (λ (o : Output). forged_document arts es o.adopted) s.0)
quiet arts x es js w n steps.TakePrio output after s other =
    neither_both false _ _ refl (none_answered arts x es js _ (ap (λ (o : Output). o.answered) s.0))
    (ap (λ (o : Output). forged_document arts es o.adopted) s.0)
quiet arts x es js w n (steps.Publish document) output after s other =
    neither_both false _ _ refl (none_answered arts x es js _ (ap (λ (o : Output). o.answered) s.0))
    (ap (λ (o : Output). forged_document arts es o.adopted) s.0)

never : (o : Option What) (what : What) → o ≡ None → o ≡ Some what → ⊥
never o what e f = cc

calm : (arts : Arts) (x : Setting) (es : List Event) (js : List Entry) (w new : World) (e : Event) (j : Entry) (m : Move arts x w e j new) (what : What)
    (i : Input)
    → input_of arts x w m.node e ≡ Some i → ((u : NodeId) (bytes : List ℕ) → i ≡ steps.Datagram u bytes → ⊥)
    → forged arts x es js w m.node m.input m.output ≡ Some what → ⊥
calm arts x es js w new e j m what i reaches other is =
    let both : Some m.input ≡ Some i = sym m.reaches ∙ reaches in
    let same : m.input ≡ i = cc in
    never _ what (quiet arts x es js w m.node m.input m.output m.after m.step (λ u bytes f. other u bytes (sym same ∙ f))) is

by_move : (arts : Arts) (x : Setting) (es : List Event) (js : List Entry) (w new : World) (e : Event) (j : Entry) → SettingFits arts x
    → Carries x.topology.format arts → Signs arts x es js w
    → (m : Move arts x w e j new) (what : What) → forged arts x es js w m.node m.input m.output ≡ Some what → IsHostile e
by_move arts x es js w new (events.Pass u v number) j fits reads run m what is =
    never _ what (pass_unforged arts x es js w new u v number j fits reads run m) is
by_move arts x es js w new (events.Rel s d p) j fits reads run m what is = calm arts x es js w new _ j m what _ refl (λ u b f. cc) is
by_move arts x es js w new (events.Krel s d count p) j fits reads run m what is = calm arts x es js w new _ j m what _ refl (λ u b f. cc) is
by_move arts x es js w new (events.Prio s d a b c p) j fits reads run m what is = calm arts x es js w new _ j m what _ refl (λ u b f. cc) is
by_move arts x es js w new (events.Take d s) j fits reads run m what is = calm arts x es js w new _ j m what _ refl (λ u b f. cc) is
by_move arts x es js w new (events.KTake d s) j fits reads run m what is = calm arts x es js w new _ j m what _ refl (λ u b f. cc) is
by_move arts x es js w new (events.TakePrio d) j fits reads run m what is = calm arts x es js w new _ j m what _ refl (λ u b f. cc) is
by_move arts x es js w new (events.Tick u now) j fits reads run m what is = calm arts x es js w new _ j m what _ refl (λ u b f. cc) is
by_move arts x es js w new (events.Weight u v weight) j fits reads run m what is = calm arts x es js w new _ j m what _ refl (λ u b f. cc) is
by_move arts x es js w new (events.Poll u v) j fits reads run m what is = calm arts x es js w new _ j m what _ refl (λ u b f. cc) is
by_move arts x es js w new (events.Flip u v number back bit) j fits reads run m what is = tt
by_move arts x es js w new (events.Inject u v bytes) j fits reads run m what is = tt
by_move arts x es js w new (events.Craft c v key body) j fits reads run m what is = tt
by_move arts x es js w new (events.CraftStatus c v s d base have) j fits reads run m what is = tt
by_move arts x es js w new (events.CraftDocument c v key version weights) j fits reads run m what is = tt
by_move arts x es js w new (events.Publish u weights) j fits reads run m what is = calm arts x es js w new _ j m what _ refl (λ u b f. cc) is
by_move arts x es js w new (events.Start u) j fits reads run m what is = absurd (let none : None ≡ Some m.input = m.reaches in cc)
by_move arts x es js w new (events.Stop u) j fits reads run m what is = absurd (let none : None ≡ Some m.input = m.reaches in cc)

pub only_the_adversary : OnlyTheAdversaryForges
only_the_adversary arts x es js w e what fits reads run at = go at.turn at.is
  where
    go : (turn : Turn arts x w e at.entry at.new) → forged_in arts x es js w e at.entry at.new turn ≡ Some what → IsHostile e
    go (Moves m) is = by_move arts x es js (ready x w e) at.new e at.entry fits reads (signs_there arts x es js w e fits reads run) m what is
    go (Stays s) is = absurd cc
    go (Lives on life) is = absurd cc
