use Rattle.std.proofs.Common.{◌≤◌, List, ℕ, length, subst, sym, ◌∙◌}
use Rattle.sp_frame.specs.declared.writing.TheConstants.{MAX_DOCUMENT_BYTES}
use Rattle.sp_service.proofs.Bootable.{bootable, signed_by}
use Rattle.sp_service.proofs.starts.station_at.Goals as goal
use Rattle.sp_service.specs.Starts.{IsSignedBy}

pub document_of-requires : goal.document_of-requires
document_of-requires c =
    subst (IsSignedBy c.args.config.now.admin) (sym c.as_slice.ensures) (signed_by c.args.config.now c.args.fitted.topology c.requires.fits)

pub boot-requires : goal.boot-requires
boot-requires c =
    rw (c.from_vec.ensures ∙ c.in_ok-keys.ensures, c.in_ok-signer.ensures, c.requires.key, c.in_ok-document.ensures.copied ∙ c.as_slice.ensures)
    (bootable c.args.config.now c.args.fitted.topology c.args.opening
    (subst (λ (bytes : List ℕ). length bytes ≤ MAX_DOCUMENT_BYTES) c.as_slice.ensures c.in_ok-document.ensures.short) c.requires.fits c.requires.topology
    c.requires.opening)
