-- How far a device has come.
use Rattle.std.specs.Prelude.{Option, Some, None}
use Rattle.sz_record.specs.declared.device.Committed.{Committed}
use Rattle.sz_record.specs.declared.device.Device.{Device}
use Rattle.sz_record.specs.declared.device.Image.{Image}
use Rattle.sz_record.specs.declared.device.Stage.{Stage}
use Rattle.sz_record.specs.declared.device.Stage.TheVariants.{Factory, Installed, Onboarded}

abbrev pub stage_by : Option Image → Option Committed → Stage
stage_by image (Some committed) = Onboarded
stage_by (Some image) None = Installed
stage_by None None = Factory

-- onboarded where it was committed, installed where it has an image alone
abbrev pub stage_of : Device → Stage
stage_of device = stage_by device.image device.onboarded
