-- What a wire in memory holds and keeps: what comes on each side, and the calls that were made.
use Rattle.std.specs.Prelude.{ℕ, ◌≡◌, Bool, true, false, List, [], ◌∷◌, drop, map, take, Option, None, Some}
use Rattle.sp_outside.specs.declared.wire.TheConstants.{DATAGRAM_BYTES}
use Rattle.sp_outside.specs.Calls.{Call, Came, Got, Lost, Nothing, Opened, Received, Sent}
use Rattle.sp_outside.specs.declared.side.Side.{Side}
use Rattle.sp_outside.specs.declared.side.Side.TheVariants as sides
use Rattle.sp_outside.specs.declared.calls.Coming.{Coming}
use Rattle.sp_outside.specs.declared.calls.Kept.{Kept}
use Rattle.sp_outside.specs.declared.calls.Kept.TheVariants as kept
use Rattle.sp_outside.specs.declared.calls.Way.{Way}
use Rattle.sp_outside.specs.declared.calls.Way.TheVariants as ways

-- ---- what comes

-- the next of a list, where nothing comes after its end
abbrev pub next_in : List (Option Coming) → Option Coming
next_in [] = None
next_in (next ∷ later) = next

-- what a receive gives that comes to this. A datagram beyond the longest is cut there
abbrev pub got_from : Option Coming → Got
got_from None = Nothing
got_from (Some coming) = Came coming.port (take DATAGRAM_BYTES coming.bytes.now)

-- the list of a side
abbrev pub of_side : {X : Type 0} → Side → X → X → X
of_side sides.Overlay overlay client = overlay
of_side sides.Client overlay client = client

-- one was taken off the list of this side, and the other list stands
pub record Takes (side : Side) (overlay client overlay_after client_after : List (Option Coming)) : Type 0 where
  pub taken : of_side side overlay_after client_after ≡ drop 1 (of_side side overlay client)
  pub other : of_side side client_after overlay_after ≡ of_side side client overlay

-- ---- what is kept

-- the call that is told of what a wire keeps
abbrev pub call_of : Kept → Call
call_of (kept.Opened overlay client is_done) = Opened overlay client is_done
call_of (kept.Nothing side) = Received side Nothing
call_of (kept.Lost side) = Received side Lost
call_of (kept.Came side port bytes) = Received side (Came port bytes.items)
call_of (kept.Sent side port bytes is_done) = Sent side port bytes.items is_done

-- the call in which a datagram went this way
abbrev pub call_by : Way → Side → ℕ → List ℕ → Call
call_by ways.Came side port bytes = Received side (Came port bytes)
call_by (ways.Sent is_done) side port bytes = Sent side port bytes is_done

-- the calls that are told: none where the wire is mute
abbrev pub told_by : Bool → List Kept → Option (List Call)
told_by true calls = None
told_by false calls = Some (map call_of calls)

-- the wire found no memory in this call
abbrev pub WentMute : Bool → Bool → Type 0
WentMute before after = (before ≡ false) × (after ≡ true)
