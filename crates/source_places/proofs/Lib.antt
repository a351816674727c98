mod WordLines
mod NotedNames
mod OwnNames
mod LineCells
