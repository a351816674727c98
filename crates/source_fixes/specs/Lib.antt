-- When a fix mends a text. It is a promise: a clause of the public function cites it.
pub mod Mending
