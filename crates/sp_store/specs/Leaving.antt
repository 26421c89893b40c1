-- Which entries leave a store at once.
use Rattle.std.specs.Prelude.{Bool, true}
use Rattle.sp_rules.specs.PrioPeer.{has_end_in}
use Rattle.sp_rules.specs.Store.{is_expired}
use Rattle.sp_rules.specs.declared.store.Entry.{Entry}
use Rattle.sp_store.specs.declared.leaving.Leaving.{Leaving}
use Rattle.sp_store.specs.declared.leaving.Leaving.TheVariants as leavings

abbrev pub leaves : Leaving → Entry → Bool
leaves (leavings.Expired now) e = is_expired now e
leaves (leavings.Removed nodes) e = has_end_in nodes.now e
leaves leavings.All e = true
