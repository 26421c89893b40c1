pub mod Parse
pub mod CommandLines
pub mod Views
pub mod Statuses
-- ---- the auditor's
pub mod AuditParse
pub mod AuditLines
pub mod AuditViews
pub mod AuditStatuses
