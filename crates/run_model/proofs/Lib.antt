mod Rows
mod TableRows
