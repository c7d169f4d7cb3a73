-- The law, from those of expressions, declarations and interfaces.
use Rattle.alike_laws.proofs.Whole.{readings_follow}
use Rattle.alike_books.proofs.Whole.{parts_follow, declarations_follow}
use Rattle.alike_interfaces.proofs.Whole.{interfaces_follow}
use Rattle.instance_laws.specs.Instances.{InstancesFollow}
use Rattle.instance_laws.proofs.Instances.{each_instance_follows}

pub instances_follow : InstancesFollow
instances_follow texts units h k = each_instance_follows readings_follow parts_follow declarations_follow interfaces_follow texts units h k
