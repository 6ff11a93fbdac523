-- `hunk::stores::store_block` meets its contract: one law for each form, for its words and for where its bytes lie.
use borrow.Author.Rules.{rules}
use Rattle.hunk.proofs.Stored.{room_begins, rooms, stores}
use Rattle.hunk.proofs.stores.store_block.Goals as goal

pub bounds-s-p : goal.bounds-s-p
bounds-s-p c = search (rules, room_begins)

pub store_bytes-requires : goal.store_bytes-requires
store_bytes-requires c = search (rules, rooms)

pub store_decles-requires : goal.store_decles-requires
store_decles-requires c = search (rules, rooms)

pub store_words-requires : goal.store_words-requires
store_words-requires c = search (rules, rooms)

pub returns-in-Bytes : goal.returns-in-Bytes
returns-in-Bytes c = search (rules, stores)

pub returns-in-Decles : goal.returns-in-Decles
returns-in-Decles c = search (rules, stores)

pub returns-in-Words : goal.returns-in-Words
returns-in-Words c = search (rules, stores)

pub returns-in-Reserved : goal.returns-in-Reserved
returns-in-Reserved c = search (rules, stores)
