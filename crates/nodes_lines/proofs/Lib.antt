mod Journals
