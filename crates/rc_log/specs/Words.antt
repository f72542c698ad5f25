-- What logs and journals show of themselves.
use Rattle.std.specs.Prelude.{ℕ, List}
use Rattle.rc_log.specs.declared.log.Log.{Log}
use Rattle.rc_log.specs.declared.list.ListJournal.{ListJournal}
use Rattle.rc_log.specs.Lists.{items_of}

abbrev pub disk_of : {D : Type 0} {g : _} → Log D g → D
disk_of log = log.disk

abbrev pub list_of : ListJournal → List (List ℕ)
list_of journal = items_of journal.records.items
