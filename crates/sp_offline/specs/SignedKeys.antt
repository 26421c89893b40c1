-- What holds of a draft that was read: its document can be written and signed.
use Rattle.std.specs.Prelude.{◌≡◌, ◌<◌, None}
use Rattle.sp_base.specs.Formats.{IsFormat}
use Rattle.sp_hss.specs.KeyTree.{total}
use Rattle.sp_config.specs.declared.draft.Draft.{Draft}
use Rattle.sp_config.specs.Readings.{fault_of}
use Rattle.sp_sign.specs.Heights.{param_of}

pub record IsGoodDraft (d : Draft) : Type 0 where
  pub format : IsFormat d.format
  pub no_fault : fault_of d ≡ None
  pub index : d.admin_index < total (param_of d.height)
