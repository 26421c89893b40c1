-- The parameter set of LMS (RFC 8554, section 5.1) for each height that a topology may have.
use Rattle.sp_lms.specs.declared.param.LmsParam.{LmsParam}
use Rattle.sp_lms.specs.declared.param.LmsParam.TheVariants.{H5, H10}
use Rattle.sp_topology.specs.declared.topology.LmsHeight.{LmsHeight}
use Rattle.sp_topology.specs.declared.topology.LmsHeight.TheVariants.{Five, Ten}

abbrev pub param_of : LmsHeight → LmsParam
param_of Five = H5
param_of Ten = H10
