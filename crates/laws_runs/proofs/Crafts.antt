-- What compromised nodes craft in their own names is never forged, and neither is what is no frame.
use Rattle.std.proofs.Common.{◌≡◌, ◌==◌, ℕ, Bool, true, false, cond, List, [], ◌∷◌, Some, None, Ok, Err, refl, sym, ap, subst, ◌∙◌}
use Rattle.std.specs.Prelude.{◌&&◌, IsTrue, Option, not, nat_lt}
use Rattle.std.proofs.lemmas.List.Elements.{All-nil}
use Rattle.sp_base.specs.declared.id.Flow.{Flow}
use Rattle.sp_base.specs.declared.id.NodeId.{NodeId}
use Rattle.sp_frame.specs.Ranges.{IsContentsIn}
use Rattle.sp_frame.specs.Sections.{Contents}
use Rattle.sp_frame.specs.declared.refused.FrameRefused.{FrameRefused}
use Rattle.sp_frame.specs.declared.refused.FrameRefused.TheVariants as frames
use Rattle.sp_msg.specs.Bodies.{HasGoodFieldsIn}
use Rattle.sp_msg.specs.Views.{signer_of}
use Rattle.sp_msg.specs.declared.body.Body.{Body}
use Rattle.sp_msg.specs.declared.body.Body.TheVariants as bodies
use Rattle.sp_msg.specs.declared.kept.Kept.{Kept}
use Rattle.sp_rules.specs.Answers.{is_new}
use Rattle.sp_rules.proofs.ArrivalLemmas.{of_frame}
use Rattle.sp_rules.specs.Arrivals.{arrival_at, parts_met, pieces_in, pieces_where, reply_at, sections_in, before_document, document_at, document_in}
use Rattle.sp_rules.specs.Arrivals.{document_where}
use Rattle.sp_rules.specs.Arts.{Arts}
use Rattle.sp_rules.specs.Link.{Link}
use Rattle.sp_rules.specs.Node.{call_refusal, is_shut_to, link_in}
use Rattle.sp_rules.specs.Parts.{Fixed}
use Rattle.sp_rules.specs.Pieces.{Piece, pieces_of}
use Rattle.sp_rules.specs.Steps as steps
use Rattle.sp_rules.specs.Steps.{Input, NodeStep, Output, arrived, document_adopted}
use Rattle.sp_rules.specs.declared.answers.Item.{Item}
use Rattle.sp_rules.specs.declared.lives.Life.{Life}
use Rattle.laws_node.specs.Asked.{NewKeep}
use Rattle.laws_node.proofs.Carried.{AllKeep, pieces_new}
use Rattle.sp_runs.specs.Forgery.{forged, forged_document, forged_object, has_forged_tag, is_among, is_forged, is_made, is_tagged}
use Rattle.sp_runs.specs.Inputs.{acting, crafted_frame, crafted_head, crafted_object, dated, object_alone, slot_alone}
use Rattle.sp_runs.specs.Lives.{ready}
use Rattle.sp_runs.specs.Runs.{AreFields, Lives, Moves, Move, Stays}
use Rattle.sp_runs.specs.Settings.{Setting, StaysUp, fixed_of, is_correct, is_node}
use Rattle.sp_runs.specs.Told.{signed}
use Rattle.sp_runs.specs.Worlds.{World, crafts, frames_in}
use Rattle.sp_journal.specs.declared.entry.Entry.{Entry}
use Rattle.sp_schedule_crafts.specs.Objects.{body_of}
use Rattle.sp_schedule_crafts.specs.declared.object.CraftedObject.TheVariants as crafted
use Rattle.sp_schedule_events.specs.declared.event.Event.{Event}
use Rattle.sp_schedule_events.specs.declared.event.Event.TheVariants as events
use Rattle.laws_runs.specs.Crafts.{AreLong, IsGoodCraft, NamesNoCorrectNode, NoFrameIsForged, OwnCraftsForgeNothing}
use Rattle.laws_runs.specs.Premises.{Carries, HasGoodMessages}
use Rattle.laws_runs.specs.Signs.{Good, NodeIs, Signs}
use Rattle.laws_runs.specs.Unborn.{HoldNone}
use Rattle.laws_runs.proofs.NoStarts.{in_keep, pieces_at}
use Rattle.laws_runs.proofs.Goods.{all_of, where_keep}
use Rattle.laws_runs.proofs.Lists.{both}
use Rattle.laws_runs.proofs.Passes.{called_good, neither_both}
use Rattle.laws_runs.proofs.Adopted.{call_forges, where_forges}
use Rattle.laws_runs.proofs.Signed.{signs_there}
use Rattle.laws_runs.proofs.There.{first_life}
use Rattle.laws_runs.proofs.CraftRanges.{node_small, status_fits, object_fits, only_it, dated_is}

-- ---- an object of a compromised signer

abbrev IsOfCompromised : Setting → Kept → Type 0
IsOfCompromised x o = is_correct x (signer_of o.body) ≡ false

never_all : (a b c : Bool) → (a ≡ true → b ≡ false) → (a && b && not c) ≡ false
never_all true true c h = absurd (let e : true ≡ false = h refl in cc)
never_all true false c h = refl
never_all false b c h = refl

none_forged : (arts : Arts) (x : Setting) (es : List Event) (js : List Entry) (answered : List (Kept × Item)) → NewKeep (IsOfCompromised x) answered
    → forged_object arts x es js answered ≡ None
none_forged arts x es js [] h = refl
none_forged arts x es js (a ∷ others) h =
    let fine : is_forged arts x es js a ≡ false =
    never_all (is_new a.1) (is_correct x (signer_of a.0.body)) (is_among (arts.spell a.0.body) (signed es js (signer_of a.0.body))) h.0 in
    rw fine (none_forged arts x es js others h.1)

-- ---- a datagram of a compromised node that carries only such objects

one_input : (a b : Input) → Some a ≡ Some b → b ≡ a
one_input a b e = cc

arrived_unforged : (arts : Arts) (x : Setting) (es : List Event) (js : List Entry) (w new : World) (e : Event) (j : Entry) (m : Move arts x w e j new)
    (c : NodeId) (contents : Contents)
    → Carries x.topology.format arts → m.node.fixed ≡ fixed_of x (acting e) → is_correct x c ≡ false
    → IsContentsIn x.topology.format x.signature_len contents → HasGoodMessages arts contents
    → AllKeep (IsOfCompromised x) (pieces_of contents)
    → contents.document ≡ None → m.input ≡ steps.Datagram c (crafted_frame arts m.node c contents)
    → forged arts x es js w m.node m.input m.output ≡ None
arrived_unforged arts x es js w new e j m c contents carries fixed bad range good only bare is =
    let n = m.node in
    let P = IsOfCompromised x in
    let bytes = crafted_frame arts n c contents in
    let moves : NodeStep arts n (steps.Datagram c bytes) m.output m.after = subst (λ i. NodeStep arts n i m.output m.after) is m.step in
    let back : sections_in arts n.fixed bytes ≡ Ok contents =
    ap (λ (f : Fixed). arts.sections f.signature_len bytes) fixed
    ∙ carries.back x.signature_len (crafted_head n c) contents (link_in n c).key (ap (λ (f : Fixed). f.topology.format) fixed) range good in
    let pieces : AllKeep P (pieces_in n.fixed (sections_in arts n.fixed bytes)) =
    subst (λ r. AllKeep P (pieces_in n.fixed r)) (sym back) (in_keep P n.fixed contents only) in
    let news : NewKeep P m.output.answered =
    subst (λ (o : Output). NewKeep P o.answered) (sym moves.0) (called_good P (arrived arts n c bytes) (call_refusal n c)
    (pieces_new P arts (arrival_at n c) (parts_met arts n c bytes) (pieces_at arts n c bytes)
    (where_keep P (reply_at arts n c bytes) (pieces_in n.fixed (sections_in arts n.fixed bytes)) pieces))) in
    let tag : has_forged_tag arts x w n m.input ≡ false =
    ap (has_forged_tag arts x w n) is
    ∙ never_first (is_correct x c) (is_tagged (reply_at arts n c bytes)) (is_made bytes (frames_in w.directions c n.fixed.me)) bad in
    let left = before_document arts n c bytes in
    let untouched : forged_document arts es (document_adopted arts left (document_at arts n c bytes)) ≡ None =
    where_forges arts es left (reply_at arts n c bytes) (document_in (sections_in arts n.fixed bytes))
    (ap (λ (o : Option (List ℕ)). forged_document arts es (document_adopted arts left o)) (ap document_in back ∙ bare)) in
    neither_both _ _ _ tag (none_forged arts x es js m.output.answered news)
    (ap (λ (o : Output). forged_document arts es o.adopted) moves.0 ∙ call_forges arts es (call_refusal n c) (arrived arts n c bytes) untouched)
  where
    never_first : (a b c : Bool) → a ≡ false → (a && b && not c) ≡ false
    never_first true b c e = absurd cc
    never_first false b c e = refl

-- ---- what is no frame

untagged : (arts : Arts) (f : Fixed) (version : ℕ) (shut : Bool) (l : Link) (bytes : List ℕ) (refused : FrameRefused)
    → is_tagged (of_frame arts f version shut l bytes (Err refused)) ≡ false
untagged arts f version shut l bytes frames.TooLong = refl
untagged arts f version shut l bytes (frames.Short short) = refl
untagged arts f version shut l bytes frames.Magic = refl
untagged arts f version shut l bytes frames.Version = refl

no_pieces : (P : Kept → Type 0) (arts : Arts) (f : Fixed) (version : ℕ) (shut : Bool) (l : Link) (bytes : List ℕ) (refused : FrameRefused) (pieces : List Piece)
    → AllKeep P (pieces_where (of_frame arts f version shut l bytes (Err refused)) pieces)
no_pieces P arts f version shut l bytes frames.TooLong pieces = tt
no_pieces P arts f version shut l bytes (frames.Short short) pieces = tt
no_pieces P arts f version shut l bytes frames.Magic pieces = tt
no_pieces P arts f version shut l bytes frames.Version pieces = tt

no_document : (arts : Arts) (f : Fixed) (version : ℕ) (shut : Bool) (l : Link) (bytes : List ℕ) (refused : FrameRefused) (o : Option (List ℕ))
    → document_where (of_frame arts f version shut l bytes (Err refused)) o ≡ None
no_document arts f version shut l bytes frames.TooLong o = refl
no_document arts f version shut l bytes (frames.Short short) o = refl
no_document arts f version shut l bytes frames.Magic o = refl
no_document arts f version shut l bytes frames.Version o = refl

pub no_frame_is_forged : NoFrameIsForged
no_frame_is_forged arts x es js w new u v bytes j none (Stays s) = refl
no_frame_is_forged arts x es js w new u v bytes j none (Lives on life) = refl
no_frame_is_forged arts x es js w new u v bytes j none (Moves m) =
    let n = m.node in
    let there = ready x w (events.Inject u v bytes) in
    let P = IsOfCompromised x in
    let is : m.input ≡ steps.Datagram u bytes = one_input _ m.input m.reaches in
    let moves : NodeStep arts n (steps.Datagram u bytes) m.output m.after = subst (λ i. NodeStep arts n i m.output m.after) is m.step in
    let version = n.live.version in
    let shut = is_shut_to n u in
    let reply : reply_at arts n u bytes ≡ of_frame arts n.fixed version shut (link_in n u) bytes (Err none.0) =
    ap (of_frame arts n.fixed version shut (link_in n u) bytes) none.1 in
    let read = pieces_in n.fixed (sections_in arts n.fixed bytes) in
    let pieces : AllKeep P (pieces_where (reply_at arts n u bytes) read) =
    subst (λ r. AllKeep P (pieces_where r read)) (sym reply) (no_pieces P arts n.fixed version shut (link_in n u) bytes none.0 read) in
    let news : NewKeep P m.output.answered =
    subst (λ (o : Output). NewKeep P o.answered) (sym moves.0) (called_good P (arrived arts n u bytes) (call_refusal n u)
    (pieces_new P arts (arrival_at n u) (parts_met arts n u bytes) (pieces_where (reply_at arts n u bytes) read) pieces)) in
    let tag : has_forged_tag arts x there n m.input ≡ false =
    ap (has_forged_tag arts x there n) is
    ∙ never_second (is_correct x u) (is_tagged (reply_at arts n u bytes)) (is_made bytes (frames_in there.directions u n.fixed.me))
    (ap is_tagged reply ∙ untagged arts n.fixed version shut (link_in n u) bytes none.0) in
    let left = before_document arts n u bytes in
    let untouched : forged_document arts es (document_adopted arts left (document_at arts n u bytes)) ≡ None =
    ap (λ (o : Option (List ℕ)). forged_document arts es (document_adopted arts left o))
    (ap (λ r. document_where r (document_in (sections_in arts n.fixed bytes))) reply
    ∙ no_document arts n.fixed version shut (link_in n u) bytes none.0 (document_in (sections_in arts n.fixed bytes))) in
    neither_both _ _ _ tag (none_forged arts x es js m.output.answered news)
    (ap (λ (o : Output). forged_document arts es o.adopted) moves.0 ∙ call_forges arts es (call_refusal n u) (arrived arts n u bytes) untouched)
  where
    never_second : (a b c : Bool) → b ≡ false → (a && b && not c) ≡ false
    never_second true true c e = absurd cc
    never_second true false c e = refl
    never_second false b c e = refl

-- ---- the law

bare_alone : (lives : List Life) (body : Body) (o : Kept) → (object_alone lives body o).document ≡ None
bare_alone lives (bodies.Weight b) o = refl
bare_alone lives (bodies.Prio b) o = refl
bare_alone lives (bodies.Rel b) o = refl
bare_alone lives (bodies.Ack b) o = refl
bare_alone lives (bodies.Krel b) o = refl
bare_alone lives (bodies.Kack b) o = refl
bare_alone lives (bodies.Epoch b) o = refl

moves_forge_nothing : (arts : Arts) (x : Setting) (es : List Event) (js : List Entry) (w new : World) (e : Event) (j : Entry) → StaysUp arts x
    → Carries x.topology.format arts → AreLong arts x → Signs arts x es js w → AreFields x es e → IsGoodCraft arts e → NamesNoCorrectNode x e
    → (m : Move arts x w e j new) → forged arts x es js w m.node m.input m.output ≡ None
moves_forge_nothing arts x es js w new (events.Craft c v key object) j fits carries lengths signs range good names m =
    go (nat_lt (crafts w.crafted key) x.total) m.reaches
  where
    is_it : NodeIs x (Good arts x es js) v m.node
    is_it = signs.nodes v m.node m.is_there

    lives : List Life
    lives = m.node.parts.lives

    none : HoldNone lives
    none = (is_it.plain fits.plain).unborn.lives

    said : Body
    said = dated lives (body_of object)

    same : body_of object ≡ said
    same = sym (dated_is lives none object)

    o : Kept
    o = crafted_object arts x w.crafted key said

    contents : Contents
    contents = object_alone lives said o

    go : (t : Bool) → cond t (Some (steps.Datagram c (crafted_frame arts m.node c contents))) None ≡ Some m.input
        → forged arts x es js w m.node m.input m.output ≡ None
    go false is = absurd cc
    go true is =
        arrived_unforged arts x es js w new (events.Craft c v key object) j m c contents carries
        (first_life x (Good arts x es js) v m.node fits.plain is_it) names.0
        (object_fits x.topology.format x.signature_len lives none said o.signature (subst (HasGoodFieldsIn x.topology.format) same range.3)
        (lengths key range.2 (crafts w.crafted key) (arts.spell said)) fits.fits.short)
        (all_of (λ p. IsTrue (arts.is_good p.body)) (pieces_of contents)
        (only_it (λ p. IsTrue (arts.is_good p.body)) lives said o.signature (subst (λ (b : Body). IsTrue (arts.is_good b)) same good)))
        (only_it (IsOfCompromised x) lives said o.signature (subst (λ (b : Body). is_correct x (signer_of b) ≡ false) same names.1))
        (bare_alone lives said o) (one_input _ m.input is)
moves_forge_nothing arts x es js w new (events.CraftStatus c v s d base have) j fits carries lengths signs range good names m =
    let is_it = signs.nodes v m.node m.is_there in
    let lives = m.node.parts.lives in
    let none : HoldNone lives = (is_it.plain fits.plain).unborn.lives in
    let flow : Flow = record { src = s; dst = d } in
    let other = both (is_node x d) (not (s.0 == d.0)) range.3 in
    arrived_unforged arts x es js w new (events.CraftStatus c v s d base have) j m c (slot_alone lives flow base have None []) carries
    (first_life x (Good arts x es js) v m.node fits.plain is_it) names
    (status_fits x.topology.format x.signature_len base have lives none flow (node_small arts x fits s range.2)
    (node_small arts x fits d other.0) range.4 range.5)
    (All-nil (λ p. IsTrue (arts.is_good p.body))) (tt, (tt, tt)) refl
    (one_input _ m.input m.reaches)
moves_forge_nothing arts x es js w new (events.Rel a b p) j fits carries lengths signs range good names m = absurd names
moves_forge_nothing arts x es js w new (events.Krel a b count p) j fits carries lengths signs range good names m = absurd names
moves_forge_nothing arts x es js w new (events.Prio a b c d f p) j fits carries lengths signs range good names m = absurd names
moves_forge_nothing arts x es js w new (events.Take a b) j fits carries lengths signs range good names m = absurd names
moves_forge_nothing arts x es js w new (events.KTake a b) j fits carries lengths signs range good names m = absurd names
moves_forge_nothing arts x es js w new (events.TakePrio a) j fits carries lengths signs range good names m = absurd names
moves_forge_nothing arts x es js w new (events.Tick a b) j fits carries lengths signs range good names m = absurd names
moves_forge_nothing arts x es js w new (events.Weight a b c) j fits carries lengths signs range good names m = absurd names
moves_forge_nothing arts x es js w new (events.Poll a b) j fits carries lengths signs range good names m = absurd names
moves_forge_nothing arts x es js w new (events.Pass a b c) j fits carries lengths signs range good names m = absurd names
moves_forge_nothing arts x es js w new (events.Flip a b c d f) j fits carries lengths signs range good names m = absurd names
moves_forge_nothing arts x es js w new (events.Inject a b c) j fits carries lengths signs range good names m = absurd names
moves_forge_nothing arts x es js w new (events.Publish a b) j fits carries lengths signs range good names m = absurd names
moves_forge_nothing arts x es js w new (events.CraftDocument a b c d f) j fits carries lengths signs range good names m = absurd names
moves_forge_nothing arts x es js w new (events.Start a) j fits carries lengths signs range good names m = absurd names
moves_forge_nothing arts x es js w new (events.Stop a) j fits carries lengths signs range good names m = absurd names

pub own_crafts_forge_nothing : OwnCraftsForgeNothing
own_crafts_forge_nothing arts x es js w fits carries lengths run e j new range good names (Stays s) = refl
own_crafts_forge_nothing arts x es js w fits carries lengths run e j new range good names (Lives on life) = refl
own_crafts_forge_nothing arts x es js w fits carries lengths run e j new range good names (Moves m) =
    moves_forge_nothing arts x es js (ready x w e) new e j fits carries lengths
    (signs_there arts x es js w e fits.fits carries run) range.fields good names m
