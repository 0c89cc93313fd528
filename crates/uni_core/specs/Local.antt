-- What a process keeps for itself before its first call.
use Rattle.std.specs.Prelude.{None}
use Rattle.uni_core.specs.declared.local.Local.{Local}

abbrev pub new_local : Local
new_local = record { call = None; begun = 0; among = 0; steps = 0; turns = 0 }
