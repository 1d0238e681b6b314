-- "the slot it frees at the end becomes three zeros", of which two are now pairs: zeros in all five words
use Rattle.entries.specs.declared.Entry.{Entry}
use Rattle.entries.specs.Wide.{nought}

abbrev pub blank : Entry
blank = record { device = 0; file = nought; cob = nought }
