mod CompositeThere
mod EntryFieldLemmas
mod NumberThere
mod TextThere
