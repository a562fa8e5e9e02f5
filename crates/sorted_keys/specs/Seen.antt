-- The keys as they are held: what is seen of them, and what holds of their places.
use Rattle.sorted_keys.specs.Held.{Held, keys_at}
use Rattle.sorted_keys.specs.KeyList.{KeyList}
use Rattle.sorted_keys.specs.declared.Keys.TheInside.{Inside}

abbrev pub seen : Inside → KeyList
seen k = record { lines = k.baseline.lines.now; keys = keys_at k.baseline.lines.now k.places.items; places = k.places.items }

abbrev pub all_held : Inside → Type 0
all_held k = Held k.baseline.lines.now k.places.items
