-- The sessions of a table, by the place of a port's.
use Rattle.std.proofs.Common.{◌≡◌, ℕ, true, false, List, [], ◌∷◌, ◌++◌, set, Some, None, refl, sym}
use Rattle.std.specs.Prelude.{position, find, remove}
use Rattle.sp_base.proofs.RowLemmas.{find-position, replace_where-position}
use Rattle.sp_rules.proofs.ChoiceLemmas.{find-no_position, less_first-position}
use Rattle.sp_client.specs.declared.request.Request.{Request}
use Rattle.sp_client.specs.Sessions.{is_close}
use Rattle.sp_client.specs.Tables.{Session, has_port, session, sessions_after}

-- no session of the port: one begins
pub begun : (all : List Session) (port : ℕ) (r : Request) (reply : List ℕ) → position (has_port port) all ≡ None
    → all ++ session port r.number reply ∷ [] ≡ sessions_after (find (has_port port) all) all port r reply
begun all port r reply none = rw (find-no_position (has_port port) all none) refl

-- the session ends
pub ended : (all : List Session) (port : ℕ) (r : Request) (reply : List ℕ) (place : ℕ) → position (has_port port) all ≡ Some place
    → is_close r.command ≡ true
    → remove all place ≡ sessions_after (find (has_port port) all) all port r reply
ended all port r reply place at close =
    rw (find-position (has_port port) (session port r.number reply) all place at, close) (sym (less_first-position (has_port port) all place at))

-- or goes on
pub went_on : (all : List Session) (port : ℕ) (r : Request) (reply : List ℕ) (place : ℕ) → position (has_port port) all ≡ Some place
    → is_close r.command ≡ false
    → set all place (session port r.number reply) ≡ sessions_after (find (has_port port) all) all port r reply
went_on all port r reply place at on =
    rw (find-position (has_port port) (session port r.number reply) all place at, on)
    (sym (replace_where-position (has_port port) (session port r.number reply) all place at))
