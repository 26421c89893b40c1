-- One more frame in the row of its direction.
use Rattle.std.proofs.Common.{◌≡◌, ℕ, ◌+◌, Bool, true, false, List, [], ◌∷◌, ◌++◌, get_or, length, set, Option, None, Some, refl, sym, ap, ◌∙◌, subst, eqb-true}
use Rattle.std.specs.Prelude.{◌==◌, ◌&&◌}
use Rattle.std.specs.List.{position}
use Rattle.sp_base.proofs.RowLemmas.{first_where-no_position, first_where-read, put_where-no_position, put_where-position, is_first}
use Rattle.sp_base.specs.declared.id.NodeId.{NodeId}
use Rattle.sp_journal.specs.declared.entry.Entry.{Entry}
use Rattle.sp_rules.specs.Node.{NodeState}
use Rattle.sp_rules.specs.Steps.{Frame, replied}
use Rattle.sp_runs.specs.Worlds.{Direction, is_from_to, with_frame, frames_in}
use Rattle.sp_world_steps.specs.Gave.{Tells}
use Rattle.sp_world_steps.specs.Members.{PolledAmong}
use Rattle.sp_world_steps.specs.Polls.{IsFramed, IsPolled}

one_id : (a b : NodeId) → a.0 ≡ b.0 → a ≡ b
one_id a b same = ap (λ (n : ℕ). id n) same
  where
    id : ℕ → NodeId
    id n = record { 0 = n }

ends : (u v : NodeId) (d : Direction) → is_from_to u v d ≡ true → (d.from ≡ u) × (d.to ≡ v)
ends u v d is = go (d.from.0 == u.0) (d.to.0 == v.0) refl refl is
  where
    go : (a b : Bool) → (d.from.0 == u.0) ≡ a → (d.to.0 == v.0) ≡ b → (a && b) ≡ true → (d.from ≡ u) × (d.to ≡ v)
    go true true x y z = (one_id d.from u (eqb-true d.from.0 u.0 x), one_id d.to v (eqb-true d.to.0 v.0 y))
    go true false x y z = cc
    go false b x y z = cc

abbrev none_yet : NodeId → NodeId → Direction
none_yet u v = record { from = u; to = v; frames = [] }

-- the row in this place is that of the direction
in_row : (rows : List Direction) (u v : NodeId) (place : ℕ) (row : Direction) → position (is_from_to u v) rows ≡ Some place → row ≡ get_or rows place row
    → frames_in rows u v ≡ row.frames
in_row rows u v place row at is = ap (λ (d : Direction). d.frames) (first_where-read (is_from_to u v) (none_yet u v) rows place row at is)

pub pushed_there : (rows : List Direction) (u v : NodeId) (place : ℕ) (frame : Option (List ℕ)) (row : Direction)
    → position (is_from_to u v) rows ≡ Some place → row ≡ get_or rows place row
    → set rows place (record { from = row.from; to = row.to; frames = row.frames ++ frame ∷ [] }) ≡ with_frame rows u v frame
pushed_there rows u v place frame row at is =
    let read = first_where-read (is_from_to u v) (none_yet u v) rows place row at is in
    let passes : is_from_to u v row ≡ true = rw (← is) at (is_first (is_from_to u v) rows place row at).passes in
    let same = ends u v row passes in
    let placed = put_where-position (is_from_to u v) (record { from = u; to = v; frames = frames_in rows u v ++ frame ∷ [] }) rows place at in
    rw (same.0, same.1, ← read) (sym placed)

-- there is none yet
in_no_row : (rows : List Direction) (u v : NodeId) → position (is_from_to u v) rows ≡ None → frames_in rows u v ≡ []
in_no_row rows u v none = ap (λ (d : Direction). d.frames) (first_where-no_position (is_from_to u v) (none_yet u v) rows none)

pub pushed_first : (rows : List Direction) (u v : NodeId) (frame : Option (List ℕ)) → position (is_from_to u v) rows ≡ None
    → rows ++ record { from = u; to = v; frames = frame ∷ [] } ∷ [] ≡ with_frame rows u v frame
pushed_first rows u v frame none =
    sym (
    put_where-no_position (is_from_to u v) (record { from = u; to = v; frames = frames_in rows u v ++ frame ∷ [] }) rows none
    ∙ ap (λ (fs : List (Option (List ℕ))). rows ++ record { from = u; to = v; frames = fs ++ frame ∷ [] } ∷ []) (in_no_row rows u v none)
    )

-- ---- a poll

pub is_framed : (nodes after : List NodeState) (u v : NodeId) (frames kept : List (Option (List ℕ))) (bytes : List ℕ) (entry : Entry) (number : ℕ)
    → PolledAmong nodes u v bytes after
    → Tells number (replied (Frame bytes)) entry → number ≡ length frames + 1 → kept ≡ frames ++ Some bytes ∷ []
    → IsFramed nodes u v frames entry after kept
is_framed nodes after u v frames kept bytes entry number polled tells counted is = record {
  bytes = bytes;
  polled = polled;
  tells = subst (λ (k : ℕ). Tells k (replied (Frame bytes)) entry) counted tells;
  kept_is = is;
}

framed_is : (nodes after : List NodeState) (rows new : List Direction) (u v : NodeId) (frames kept : List (Option (List ℕ))) (entry : Entry)
    → (f : IsFramed nodes u v frames entry after kept) → frames_in rows u v ≡ frames → new ≡ with_frame rows u v (Some f.bytes)
    → IsPolled nodes rows u v entry after new
framed_is nodes after rows new u v frames kept entry f are is = record {
  old = f.polled.old;
  new = f.polled.new;
  bytes = f.bytes;
  is_there = f.polled.is_there;
  step = f.polled.step;
  tells = subst (λ (fs : List (Option (List ℕ))). Tells (length fs + 1) (replied (Frame f.bytes)) entry) (sym are) f.tells;
  nodes_are = f.polled.nodes_are;
  kept_are = is;
}

pub polled_there : (nodes after : List NodeState) (rows : List Direction) (u v : NodeId) (place : ℕ) (row : Direction) (kept : List (Option (List ℕ)))
    (entry : Entry)
    → position (is_from_to u v) rows ≡ Some place → row ≡ get_or rows place row → IsFramed nodes u v row.frames entry after kept
    → IsPolled nodes rows u v entry after (set rows place (record { from = row.from; to = row.to; frames = kept }))
polled_there nodes after rows u v place row kept entry at is f =
    framed_is nodes after rows (set rows place (record { from = row.from; to = row.to; frames = kept })) u v row.frames kept entry f
    (in_row rows u v place row at is)
    (ap (λ (fs : List (Option (List ℕ))). set rows place (record { from = row.from; to = row.to; frames = fs })) f.kept_is
    ∙ pushed_there rows u v place (Some f.bytes) row at is)

pub polled_first : (nodes after : List NodeState) (rows new : List Direction) (u v : NodeId) (frames kept : List (Option (List ℕ))) (entry : Entry)
    → position (is_from_to u v) rows ≡ None → frames ≡ [] → IsFramed nodes u v frames entry after kept
    → new ≡ rows ++ record { from = u; to = v; frames = kept } ∷ []
    → IsPolled nodes rows u v entry after new
polled_first nodes after rows new u v frames kept entry none empty f is =
    framed_is nodes after rows new u v frames kept entry f (in_no_row rows u v none ∙ sym empty)
    (is
    ∙ ap (λ (fs : List (Option (List ℕ))). rows ++ record { from = u; to = v; frames = fs } ∷ [])
    (f.kept_is ∙ ap (λ (fs : List (Option (List ℕ))). fs ++ Some f.bytes ∷ []) empty)
    ∙ pushed_first rows u v (Some f.bytes) none)
